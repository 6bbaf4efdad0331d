-- Moves by their texts.
use Rattle.std.proofs.Common.{◌≡◌, ℕ, zero, suc, ◌<◌, Bool, true, false, cond, [], length, get_or, Some, refl, ap, arith}
use Rattle.std.specs.Str.{bytes_eq}
use Rattle.std.proofs.lemmas.Slice.Eq.{bytes_eq-Decides}
use Rattle.game.specs.Tree.{Moves, none, move, nowhere, successors, texts}
use Rattle.solution_laws.specs.Claims.{by_text}

pub length-texts : (m : Moves) → length (texts m) ≡ length (successors m)
length-texts none = refl
length-texts (move x t m) = ap suc (length-texts m)

-- no two moves share a text
abbrev pub Distinct : Moves → Type 0
Distinct m = (i j : ℕ) → i < length (texts m) → j < length (texts m) → get_or (texts m) i [] ≡ get_or (texts m) j [] → i ≡ j

pub by-text-at : (m : Moves) → Distinct m → (i : ℕ) → i < length (successors m) → by_text (get_or (texts m) i []) m ≡ Some (get_or (successors m) i nowhere)
by-text-at none d i l = absurd (omega arith)
by-text-at (move y t m) d zero l = simp ((bytes_eq-Decides y y).1 refl)
by-text-at (move y t m) d (suc i) l =
    go (bytes_eq (get_or (texts m) i []) y) refl (by-text-at m (λ a c p q r. let s = d (suc a) (suc c) (omega arith) (omega arith) r in omega arith) i (omega arith))
  where
    go : (v : Bool) → bytes_eq (get_or (texts m) i []) y ≡ v → by_text (get_or (texts m) i []) m ≡ Some (get_or (successors m) i nowhere)
        → cond v (Some t) (by_text (get_or (texts m) i []) m) ≡ Some (get_or (successors m) i nowhere)
    go true e h =
        let n = length-texts m in
        let z = d (suc i) 0 (omega arith) (omega arith) ((bytes_eq-Decides (get_or (texts m) i []) y).0 e) in
        absurd (omega arith)
    go false e h = h
