-- What a stack holds, what lies above it, and how much it can hold.
use Rattle.std.specs.Prelude.{◌≡◌, ℕ, List, ◌∷◌, [], Option, MatchOption, reverse, length, take, drop}
use Rattle.std.specs.Borrow.{Bor, MutBor}
use Rattle.stack.specs.declared.Stack.{Stack}

-- the first n, the last of them first
unfoldable pub tops : {T : Type 0} → ℕ → List T → List T
tops n xs = reverse (take n xs)

-- the entries, the top one first
abbrev pub contents : {T : Type 0} → Stack T → List T
contents s = tops s.len s.slots.now

-- what the places above the top have, from the lowest up
abbrev pub above : {T : Type 0} → Stack T → List T
above s = drop s.len s.slots.now

-- how many entries it can hold
abbrev pub room : {T : Type 0} → Stack T → ℕ
room s = length s.slots.now

-- The stack lies in this slice, so when its life ends the slice holds the contents, the top one last, and then what is above.
abbrev pub LiesIn : {T : Type 0} → Stack T → MutBor (List T) → Type 0
LiesIn s slice = s.slots.ghost_name ≡ slice.ghost_name

abbrev pub InTheSameSlice : {T : Type 0} → Stack T → Stack T → Type 0
InTheSameSlice s s' = s'.slots.ghost_name ≡ s.slots.ghost_name

-- the top one of the first n
abbrev pub TopOf : {T : Type 0} → ℕ → List T → Option (Bor T) → Type 0
TopOf n xs o = MatchOption o (tops n xs ≡ []) (λ e. (below : List _) × (tops n xs ≡ e.now ∷ below))
