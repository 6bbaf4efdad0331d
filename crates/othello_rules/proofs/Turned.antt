-- The list of placements, and the turn, in the words of the rules.
use Rattle.std.proofs.Common.{◌≡◌, ℕ, zero, suc, ◌+◌, ◌<◌, ◌≤◌, Bool, true, false, cond, ◌||◌, eqb, ◌⊎◌, List, [], ◌∷◌, filter, Decides, sym, refl, ap, ◌∙◌, inl, inr, arith}
use Rattle.std.specs.List.{range_with_len}
use Rattle.std.proofs.lemmas.Bool.{false≢true, cases_eq, eq-eqb, ne_eqb}
use Rattle.board.specs.Masks.{member}
use Rattle.othello_rules.specs.Rules.{any}
use Rattle.othello_rules.specs.Diagrams.{opponent, placeable, placements, passed, turn}
use Rattle.othello_rules.specs.Legal.{IsEmpty, Turns, CanPlace, Lists, HasTurn}
use Rattle.othello_rules.specs.declared.diagram.Diagram.{Diagram}
use Rattle.othello_rules.specs.declared.side.Side.{Side}
use Rattle.othello_rules.specs.declared.side.Side.TheVariants.{X, O}
use Rattle.othello_rules.specs.declared.turn.Turn.TheVariants.{Place, Pass, Ended}
use Rattle.othello_rules.proofs.Rising.{rising, less}
use Rattle.othello_rules.proofs.Legality.{placeable_legal, legal_placeable}

-- what is filtered is in the range and passes
module _ (p : ℕ → Bool) where
  abbrev front : ℕ → List ℕ → Bool → List ℕ
  front a l b = cond b (a ∷ l) l

  first_passes : (n a s : ℕ) (l : List ℕ) → (member s l ≡ true → (s < a + suc n) × (p s ≡ true)) → p a ≡ true → (a ≡ s) ⊎ (a ≡ s → ⊥)
      → (eqb a s || member s l) ≡ true → (s < a + suc n) × (p s ≡ true)
  first_passes n a s l f k (inl z) h = (omega arith, sym (ap p z) ∙ k)
  first_passes n a s l f k (inr z) h = f (sym (ap (λ (b : Bool). b || member s l) (ne_eqb a s z)) ∙ h)

  front_passes : (n a s : ℕ) (l : List ℕ) → (member s l ≡ true → (s < a + suc n) × (p s ≡ true)) → (b : Bool) → p a ≡ b
      → member s (front a l b) ≡ true → (s < a + suc n) × (p s ≡ true)
  unfolding member
  front_passes n a s l f true k h = first_passes n a s l f k (cases_eq a s) h
  front_passes n a s l f false k h = f h

  member-filter : (n a s : ℕ) → member s (filter p (range_with_len a n)) ≡ true → (s < a + n) × (p s ≡ true)
  unfolding member
  member-filter zero a s e = absurd (false≢true e)
  member-filter (suc n) a s e =
      front_passes n a s (filter p (range_with_len (a + 1) n)) (λ h. let r = member-filter n (a + 1) s h in (omega (arith, r.0), r.1)) (p a) refl e

  in_front : (a s : ℕ) (l : List ℕ) → p s ≡ true → ((a ≡ s → ⊥) → member s l ≡ true) → (a ≡ s) ⊎ (a ≡ s → ⊥) → (b : Bool) → p a ≡ b
      → member s (front a l b) ≡ true
  unfolding member
  in_front a s l e f (inl z) true i = ap (λ (b : Bool). b || member s l) (eq-eqb a s z)
  in_front a s l e f (inl z) false i = absurd (false≢true (sym i ∙ ap p z ∙ e))
  in_front a s l e f (inr z) true i = ap (λ (b : Bool). b || member s l) (ne_eqb a s z) ∙ f z
  in_front a s l e f (inr z) false i = f z

  filter-member : (n a s : ℕ) → a ≤ s → s < a + n → p s ≡ true → member s (filter p (range_with_len a n)) ≡ true
  filter-member zero a s h k e = absurd (omega arith)
  filter-member (suc n) a s h k e =
      in_front a s (filter p (range_with_len (a + 1) n)) e (λ z. filter-member n (a + 1) s (omega arith) (omega arith) e) (cases_eq a s) (p a) refl

pub lists : (d : Diagram) → Lists d (placements d)
unfolding placements
lists d = record {
  legal = λ s. (
    λ e. (let r = member-filter (placeable d) 64 0 s e in placeable_legal d s (omega (arith, r.0)) r.1),
    λ l. filter-member (placeable d) 64 0 s (omega arith) (let h : s < 64 = l.on_board in omega arith) (legal_placeable d s l),
  );
  rising = λ i j h k. less (filter (placeable d) (range_with_len 0 64)) 0 i j (rising (placeable d) 64 0) h k;
}

-- ---- whether there is one

head_listed : (l : List ℕ) → any l ≡ true → (s : ℕ) × (member s l ≡ true)
unfolding any member
head_listed [] e = absurd (false≢true e)
head_listed (s ∷ l) e = (s, ap (λ (b : Bool). b || member s l) (eq-eqb s s refl))

listed_any : (l : List ℕ) (s : ℕ) → member s l ≡ true → any l ≡ true
unfolding any member
listed_any [] s e = e
listed_any (q ∷ l) s e = refl

pub any_means : (d : Diagram) → Decides (any (placements d)) (CanPlace d.mover d)
any_means d = (
  λ e. (let r = head_listed (placements d) e in (r.0, ((lists d).legal r.0).0 r.1)),
  λ p. listed_any (placements d) p.0 (((lists d).legal p.0).1 p.1),
)

-- ---- the same side on the same discs, with the other to move

to_passed : (m : Side) (d : Diagram) → CanPlace m d → CanPlace m (passed d)
to_passed m d p = (p.0, record { on_board = p.1.on_board; free = both m (λ n. p.1.free n); turns = seen m p.1.turns })
  where
    both : (m : Side) → IsEmpty d p.0 → IsEmpty (passed d) p.0
    both m f X = f X
    both m f O = f O

    seen : (m : Side) → (q : ℕ) × Turns m d p.0 q → (q : ℕ) × Turns m (passed d) p.0 q
    seen X t = t
    seen O t = t

from_passed : (m : Side) (d : Diagram) → CanPlace m (passed d) → CanPlace m d
from_passed m d p = (p.0, record { on_board = p.1.on_board; free = both (λ n. p.1.free n); turns = seen m p.1.turns })
  where
    both : IsEmpty (passed d) p.0 → IsEmpty d p.0
    both f X = f X
    both f O = f O

    seen : (m : Side) → (q : ℕ) × Turns m (passed d) p.0 q → (q : ℕ) × Turns m d p.0 q
    seen X t = t
    seen O t = t

pub passed_means : (d : Diagram) → Decides (any (placements (passed d))) (CanPlace (opponent d.mover) d)
passed_means d = (
  λ e. from_passed (opponent d.mover) d ((any_means (passed d)).0 e),
  λ p. (any_means (passed d)).1 (to_passed (opponent d.mover) d p),
)

-- ---- the turn

neither : (n : Side) (P : Side → Type 0) → (P n → ⊥) → (P (opponent n) → ⊥) → (m : Side) → P m → ⊥
neither X P p q X = p
neither X P p q O = q
neither O P p q X = q
neither O P p q O = p

module _ (d : Diagram) where
  pub places_turn : CanPlace d.mover d → HasTurn d Place
  places_turn can = record {
    place = (λ _. can, λ _. refl);
    pass = (λ e. absurd (cc), λ h. absurd (h.0 can));
    ended = (λ e. absurd (cc), λ h. absurd (h d.mover can));
  }

  pub passes_turn : (CanPlace d.mover d → ⊥) → CanPlace (opponent d.mover) d → HasTurn d Pass
  passes_turn stuck answered = record {
    place = (λ e. absurd (cc), λ h. absurd (stuck h));
    pass = (λ _. (stuck, answered), λ _. refl);
    ended = (λ e. absurd (cc), λ h. absurd (h (opponent d.mover) answered));
  }

  pub ended_turn : (CanPlace d.mover d → ⊥) → (CanPlace (opponent d.mover) d → ⊥) → HasTurn d Ended
  ended_turn stuck mute = record {
    place = (λ e. absurd (cc), λ h. absurd (stuck h));
    pass = (λ e. absurd (cc), λ h. absurd (mute h.1));
    ended = (λ _. neither d.mover (λ m. CanPlace m d) stuck mute, λ _. refl);
  }

  -- what the test of a side that has no placement tells
  pub barred : (b : Bool) (m : Side) → b ≡ false → Decides b (CanPlace m d) → CanPlace m d → ⊥
  barred b m e p h = false≢true (sym e ∙ p.1 h)

  by_tests : (a b : Bool) → Decides a (CanPlace d.mover d) → Decides b (CanPlace (opponent d.mover) d) → HasTurn d (cond a Place (cond b Pass Ended))
  by_tests true b p q = places_turn (p.0 refl)
  by_tests false true p q = passes_turn (barred false d.mover refl p) (q.0 refl)
  by_tests false false p q = ended_turn (barred false d.mover refl p) (barred false (opponent d.mover) refl q)

  pub has_turn : HasTurn d (turn d)
  has_turn = by_tests (any (placements d)) (any (placements (passed d))) (any_means d) (passed_means d)

  -- the test of a diagram after a pass
  pub passed_test : (e : Diagram) (b : Bool) → e ≡ passed d → Decides b (CanPlace e.mover e) → Decides b (CanPlace (opponent d.mover) d)
  passed_test e b h p =
      let q : Decides b (CanPlace (opponent d.mover) (passed d)) = rw h at p in
      (λ k. from_passed (opponent d.mover) d (q.0 k), λ k. q.1 (to_passed (opponent d.mover) d k))
