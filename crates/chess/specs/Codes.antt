-- Equal codes are codes of equal positions.
use Rattle.std.specs.Prelude.{◌≡◌, ℕ, zero, suc, ◌+◌, ◌-◌, ◌*◌, ◌^◌, ◌<◌, ◌≤◌, List, length, Some, None, Option, slice_index_or, refl}
use Rattle.std.proofs.Common.{sym, ap, ◌∙◌, ⊎_elim, arith, add-one, pow-suc}
use Rattle.std.proofs.Math.Nat.{pow-le-pow_right}
use Rattle.std.proofs.lemmas.List.{ext_get_or}
use Rattle.std.proofs.lemmas.Bool.{cases_lt}
use Rattle.board.specs.declared.square.Square.{Square}
use Rattle.board.proofs.Same.{same_square as same_number}
use Rattle.chess_attacks.specs.declared.men.Man.{Man}
use Rattle.chess_attacks.specs.declared.men.Kind.{Kind}
use Rattle.chess_attacks.specs.declared.men.Kind.TheVariants.{King, Queen, Rook, Bishop, Knight, Pawn}
use Rattle.chess_attacks.specs.declared.men.Side.{Side}
use Rattle.chess_attacks.specs.declared.men.Side.TheVariants.{White, Black}
use Rattle.chess_attacks.specs.Men.{Squares, on}
use Rattle.chess.specs.Code.{kind_number, side_number, digit, word, passing_number, rest, CodesTell}

-- a way back from the numbers
abbrev kind_back : ℕ → Kind
kind_back zero = King
kind_back (suc zero) = King
kind_back (suc (suc zero)) = Queen
kind_back (suc (suc (suc zero))) = Rook
kind_back (suc (suc (suc (suc zero)))) = Bishop
kind_back (suc (suc (suc (suc (suc zero))))) = Knight
kind_back (suc (suc (suc (suc (suc (suc n)))))) = Pawn

kind_there : (k : Kind) → kind_back (kind_number k) ≡ k
kind_there King = refl
kind_there Queen = refl
kind_there Rook = refl
kind_there Bishop = refl
kind_there Knight = refl
kind_there Pawn = refl

kind_small : (k : Kind) → (0 < kind_number k) × (kind_number k < 8)
kind_small King = omega arith
kind_small Queen = omega arith
kind_small Rook = omega arith
kind_small Bishop = omega arith
kind_small Knight = omega arith
kind_small Pawn = omega arith

pub side_small : (a : Side) → side_number a < 2
side_small White = omega arith
side_small Black = omega arith

same_kind : (k l : Kind) → kind_number k ≡ kind_number l → k ≡ l
same_kind k l e = sym (kind_there k) ∙ (ap kind_back e ∙ kind_there l)

same_sides : (a c : Side) → side_number a ≡ side_number c → a ≡ c
same_sides White White e = refl
same_sides White Black e = absurd (let z : ⊥ = omega arith in z)
same_sides Black White e = absurd (let z : ⊥ = omega arith in z)
same_sides Black Black e = refl

square_small : (o : Option Man) → digit o < 16
square_small None = omega arith
square_small (Some m) = omega (arith, kind_small m.kind, side_small m.side)

same_square : (o u : Option Man) → digit o ≡ digit u → o ≡ u
same_square None None e = refl
same_square None (Some m) e = absurd (let z : ⊥ = omega (arith, kind_small m.kind) in z)
same_square (Some m) None e = absurd (let z : ⊥ = omega (arith, kind_small m.kind) in z)
same_square (Some m) (Some n) e =
    let k : m.kind ≡ n.kind = same_kind m.kind n.kind (omega (arith, kind_small m.kind, kind_small n.kind)) in
    let a : m.side ≡ n.side = same_sides m.side n.side (omega (arith, kind_small m.kind, kind_small n.kind)) in
    ap Some (λ i. record { side = a i; kind = k i })

same_word : (b c : Squares) (s n : ℕ) → word b s n ≡ word c s n → (i : ℕ) → i < n → on b (s + i) ≡ on c (s + i)
unfolding word
same_word b c s zero e i l = absurd (let z : ⊥ = omega arith in z)
same_word b c s (suc n) e i l =
    let sb = square_small (on b (s + n)) in
    let sc = square_small (on c (s + n)) in
    let before : word b s n ≡ word c s n = omega arith in
    let here : digit (on b (s + n)) ≡ digit (on c (s + n)) = omega arith in
    ⊎_elim
    (λ (h : i < n). same_word b c s n before i h)
    (λ (h : n ≤ i).
    let at : n ≡ i = omega arith in
    ap (λ j. on b (s + j)) (sym at) ∙ (same_square (on b (s + n)) (on c (s + n)) here ∙ ap (λ j. on c (s + j)) at))
    (cases_lt i n)

-- the square s of the w-th word
at_square : (b c : Squares) (w s : ℕ) → word b w 16 ≡ word c w 16 → w ≤ s → s < w + 16 → on b s ≡ on c s
at_square b c w s e l h =
    let q : w + (s - w) ≡ s = omega arith in
    ap (on b) (sym q) ∙ (same_word b c w 16 e (s - w) (omega arith) ∙ ap (on c) q)

same_board : (b c : Squares) → length b ≡ 64 → length c ≡ 64 → word b 0 16 ≡ word c 0 16 → word b 16 16 ≡ word c 16 16 → word b 32 16 ≡ word c 32 16 → word b 48 16 ≡ word c 48 16 → b ≡ c
same_board b c lb lc e0 e1 e2 e3 =
    ext_get_or None b c (lb ∙ sym lc)
    (λ s l.
    ⊎_elim (λ (h : s < 16). at_square b c 0 s e0 (omega arith) (omega arith))
    (λ (k : 16 ≤ s). ⊎_elim (λ (h : s < 32). at_square b c 16 s e1 k (omega arith))
    (λ (k : 32 ≤ s). ⊎_elim (λ (h : s < 48). at_square b c 32 s e2 k (omega arith))
    (λ (k : 48 ≤ s). at_square b c 48 s e3 k (omega arith))
    (cases_lt s 48))
    (cases_lt s 32))
    (cases_lt s 16))

pub passing_small : (o : Option Square) → passing_number o < 65
passing_small None = omega arith
passing_small (Some s) = omega (arith, s.ok)

same_passing : (o u : Option Square) → passing_number o ≡ passing_number u → o ≡ u
same_passing None None e = refl
same_passing None (Some s) e = absurd (let z : ⊥ = omega arith in z)
same_passing (Some s) None e = absurd (let z : ⊥ = omega arith in z)
same_passing (Some s) (Some t) e = let q : s.number ≡ t.number = omega arith in ap Some (same_number s t q)

pub word_small : (b : Squares) (s n : ℕ) → word b s n < 16 ^ n
unfolding word
word_small b s zero = omega arith
word_small b s (suc n) = omega (arith, pow-suc 16 n, word_small b s n, square_small (on b (s + n)))

-- one more digit
pub word_more : (b : Squares) (s n x d : ℕ) → x ≡ word b s n → d ≡ digit (on b (s + n)) → x * 16 + d ≡ word b s (n + 1)
unfolding word
word_more b s n x d e f = rw add-one (ap (λ y. y * 16 + d) e ∙ ap (λ y. word b s n * 16 + y) f)

pub digit_fits : (x i d : ℕ) → i < 16 → x < 16 ^ i → d < 16 → (x * 16 + d < 16 ^ (i + 1)) × (x * 16 + d < 2 ^ 64)
digit_fits x i d l h k =
    let more : 16 ^ (i + 1) ≡ 16 ^ i * 16 = rw add-one (pow-suc 16 i) in
    let top : 16 ^ (i + 1) ≤ 16 ^ 16 = pow-le-pow_right {n = 16} (omega arith) {i = i + 1} {j = 16} (omega arith) in
    let one : x * 16 + d < 16 ^ (i + 1) = omega arith in
    (one, omega arith)

pub codes_tell_lem : CodesTell
codes_tell_lem a c m n d e hd he q =
    let nth : ℕ → List ℕ → ℕ = λ i xs. slice_index_or xs i 0 in
    let board : d.board ≡ e.board = same_board d.board e.board hd he (ap (nth 0) q) (ap (nth 1) q) (ap (nth 2) q) (ap (nth 3) q) in
    let last : rest a m d ≡ rest c n e = ap (nth 4) q in
    let s₁ = side_small d.mover in
    let s₂ = side_small e.mover in
    let s₃ = side_small a in
    let s₄ = side_small c in
    let p₁ = passing_small d.passing in
    let p₂ = passing_small e.passing in
    let attacker : a ≡ c = same_sides a c (omega arith) in
    let mover : d.mover ≡ e.mover = same_sides d.mover e.mover (omega arith) in
    let passing : d.passing ≡ e.passing = same_passing d.passing e.passing (omega arith) in
    let plies : m ≡ n = omega arith in
    (attacker, plies, λ i. record { board = board i; mover = mover i; passing = passing i })
