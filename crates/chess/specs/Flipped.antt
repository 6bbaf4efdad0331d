-- After a move the other side is to move, and one ply fewer is left.
use Rattle.std.specs.Prelude.{◌≡◌, ℕ, zero, suc, ◌-◌, ◌%◌, ◌<◌, ◌≢◌, ◌⊎◌, Some, refl}
use Rattle.std.proofs.Common.{sym, subst, inl, inr, arith}
use Rattle.std.specs.List.{ContainsAt as Has, AllByRecursion, slice_get}
use Rattle.std.proofs.ByRecursion.{All-get_or, All-weaker, all_has_itself}
use Rattle.std.proofs.lemmas.Bool.{cases_eq}
use Rattle.chess_attacks.specs.declared.men.Side.{Side}
use Rattle.chess_attacks.specs.declared.men.Side.TheVariants.{White, Black}
use Rattle.chess_attacks.specs.Men.{other}
use Rattle.chess_moves.specs.declared.diagram.Diagram.{Diagram}
use Rattle.chess_moves.specs.declared.step.Move.{Move}
use Rattle.chess_moves.specs.After.{played}
use Rattle.chess_moves.specs.Moves.{legal_moves}
use Rattle.chess_moves.specs.Legal.{Legal}
use Rattle.chess_moves.proofs.Whole.{lists}
use Rattle.chess_moves.proofs.Leaving.{legal_leaves}
use Rattle.chess_rules.specs.Lawful.{Lawful}
use Rattle.chess.specs.Nth.{nth_some}
use Rattle.chess.specs.Trees.{choices}
use Rattle.chess.specs.Turn.{AttackersTurn}

other_is : (c a : Side) → (c ≢ a) → other c ≡ a
other_is White White n = absurd (n refl)
other_is White Black n = refl
other_is Black White n = refl
other_is Black Black n = absurd (n refl)

other_not : (c a : Side) → other c ≡ a → c ≢ a
other_not White White e = λ z. let y : ◌≡◌ {A = ℕ} 0 1 = cc in omega arith
other_not White Black e = λ z. let y : ◌≡◌ {A = ℕ} 0 1 = cc in omega arith
other_not Black White e = λ z. let y : ◌≡◌ {A = ℕ} 0 1 = cc in omega arith
other_not Black Black e = λ z. let y : ◌≡◌ {A = ℕ} 0 1 = cc in omega arith

flip : (n : ℕ) (c a : Side) → 0 < n → AttackersTurn n c a → AttackersTurn (n - 1) (other c) a
flip n c a l h = (
  λ e. other_is c a (λ q. let x : n % 2 ≡ 1 = h.1 q in let z : ⊥ = omega arith in z),
  λ e. go e (cases_eq (n % 2) 1),
)
  where
    go : other c ≡ a → (n % 2 ≡ 1) ⊎ (n % 2 ≡ 1 → ⊥) → (n - 1) % 2 ≡ 1
    go e (inl x) = absurd (other_not c a e (h.0 x))
    go e (inr y) = let ne : n % 2 ≢ 1 = y in omega arith

pub turn_moves : (a : Side) (n : ℕ) (d : Diagram) → Lawful d → (v : Move) → Legal d v → 0 < n → AttackersTurn n d.mover a → AttackersTurn (n - 1) (played d v).mover a
turn_moves a n d k v l z h =
    subst (λ (c : Side). AttackersTurn (n - 1) c a) (sym (legal_leaves d k.whole v l).mover) (flip n d.mover a z h)

-- a choice is a legal move
pub choices_legal : (n : ℕ) (d : Diagram) → AllByRecursion (Legal d) (choices n d)
choices_legal zero d = tt
choices_legal (suc n) d =
    All-weaker (Has (legal_moves d)) (Legal d) (λ v h. (lists d).sound v h) (legal_moves d) (all_has_itself (legal_moves d))

pub choice_legal : (n : ℕ) (d : Diagram) (i : ℕ) (v : Move) → Some v ≡ slice_get (choices n d) i → Legal d v
choice_legal n d i v h =
    let r = nth_some (choices n d) i v v h in
    subst (Legal d) r.1 (All-get_or (Legal d) (choices n d) i v r.0 (choices_legal n d))
