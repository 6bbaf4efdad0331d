-- The test of a position's rules tells what the rules say.
use Rattle.std.proofs.Common.{◌≡◌, ℕ, zero, suc, ◌+◌, [], ◌∷◌, zero-add, ◌<◌, ◌≤◌, Bool, true, false, cond, not, ◌&&◌, eqb, ltb, leb, length, Some, None, Decides, Option, sym, refl, ap, ◌∙◌}
use Rattle.std.specs.List.{list_all, range_with_len}
use Rattle.std.proofs.lemmas.List.Folds.{list_all-append}
use Rattle.std.proofs.lemmas.Bool.{and_parts, and_from, eqb-true, eq-eqb, leb-true, le-leb, ltb-true, lt-ltb, false≢true}
use Rattle.std.proofs.lemmas.Bool.Decides.{Decides-below_and, Decides-not}
use Rattle.board.specs.Squares.{row}
use Rattle.chess_attacks.specs.declared.men.Man.{Man}
use Rattle.chess_attacks.specs.declared.men.Kind.TheVariants.{Pawn}
use Rattle.chess_attacks.specs.declared.men.Side.{Side}
use Rattle.chess_attacks.specs.declared.men.Side.TheVariants.{White, Black}
use Rattle.chess_attacks.specs.Men.{Squares, on, other, same_side, is_pawn, man_of}
use Rattle.chess_attacks.specs.Commands.{Checked}
use Rattle.chess_attacks.specs.Lists.{checked}
use Rattle.chess_attacks.proofs.Sides.{side-true, side_same, pawn_kind}
use Rattle.chess_attacks.proofs.Members.{range_more}
use Rattle.chess_attacks.proofs.Meaning.{checked_means}
use Rattle.chess_moves.specs.declared.diagram.Diagram.{Diagram}
use Rattle.chess_moves.specs.Moves.{empty, passing_of}
use Rattle.chess_moves.specs.Count.{men, kings}
use Rattle.chess_moves.proofs.Legality.{empty-none}
use Rattle.chess_rules.specs.Lawful.{passed_row, came_from, went_to, pawn_of, EnPassant, Lawful, side_fine, holds_pawn, inner, pawns_inner, passing_fine, rules_kept, lawful}

-- what stands on a square
pawn-from : (a : Side) (o : Option Man) → man_of a Pawn o ≡ true → o ≡ pawn_of a
pawn-from a None h = absurd (false≢true h)
pawn-from a (Some m) h =
    let p = and_parts (same_side m.side a) (is_pawn m.kind) h in
    ap Some (λ i. record { side = side_same m.side a p.0 i; kind = pawn_kind m.kind p.1 i })

pawn-to : (a : Side) → man_of a Pawn (pawn_of a) ≡ true
pawn-to a = and_from (same_side a a) true (side-true a a refl) refl

-- the pawns' rows
module _ (b : Squares) where
  abbrev Inner : ℕ → Type 0
  Inner s = (m : Man) → on b s ≡ Some m → m.kind ≡ Pawn → (0 < row s) × (row s < 7)

  inner_from : (s : ℕ) (x : Bool) → cond x (ltb 0 (row s) && ltb (row s) 7) true ≡ true → x ≡ true → (0 < row s) × (row s < 7)
  inner_from s true h e = let p = and_parts (ltb 0 (row s)) (ltb (row s) 7) h in (ltb-true 0 (row s) p.0, ltb-true (row s) 7 p.1)
  inner_from s false h e = absurd (false≢true e)

  inner_to : (s : ℕ) (o : Option Man) → on b s ≡ o → Inner s → cond (holds_pawn o) (ltb 0 (row s) && ltb (row s) 7) true ≡ true
  inner_to s None e h = refl
  inner_to s (Some m) e h = by_kind (is_pawn m.kind) refl
    where
      by_kind : (x : Bool) → is_pawn m.kind ≡ x → cond x (ltb 0 (row s) && ltb (row s) 7) true ≡ true
      by_kind true p =
          let r = h m e (pawn_kind m.kind p) in
          and_from (ltb 0 (row s)) (ltb (row s) 7) (lt-ltb 0 (row s) r.0) (lt-ltb (row s) 7 r.1)
      by_kind false p = refl

  inner_means : (s : ℕ) → Decides (inner b s) (Inner s)
  inner_means s = (λ h m e k. inner_from s (holds_pawn (on b s)) h (ap holds_pawn e ∙ ap is_pawn k), inner_to s (on b s) refl)

  pub pawns_means : (n : ℕ) → Decides (pawns_inner b n) ((s : ℕ) → s < n → Inner s)
  unfolding pawns_inner
  pawns_means n = Decides-below_and (inner b) Inner (pawns_inner b) inner_means refl (λ n. refl) n

  turned : (x y : Bool) → (x && (y && true)) ≡ (y && x)
  turned true true = refl
  turned true false = refl
  turned false true = refl
  turned false false = refl

  -- the same test over a list of numbers
  pub inner_listed : (n : ℕ) → list_all (inner b) (range_with_len 0 n) ≡ pawns_inner b n
  unfolding pawns_inner
  inner_listed zero = refl
  inner_listed (suc n) =
      ap (list_all (inner b)) (range_more n 0) ∙ list_all-append (inner b) (range_with_len 0 n) ((0 + n) ∷ [])
      ∙ turned (list_all (inner b) (range_with_len 0 n)) (inner b (0 + n)) ∙ (λ i. inner b (zero-add n i) && inner_listed n i)

-- the en passant square
module _ (b : Squares) (a : Side) where
  passing_from : (e : Option ℕ) → passing_fine b a e ≡ true → EnPassant b a e
  passing_from None h = tt
  passing_from (Some s) h =
      let p = and_parts (eqb (row s) (passed_row a)) _ h in
      let q = and_parts (empty (on b s)) _ p.1 in
      let r = and_parts (empty (on b (came_from a s))) (man_of (other a) Pawn (on b (went_to a s))) q.1 in
      record {
        on_row = eqb-true (row s) (passed_row a) p.0;
        clear = empty-none (on b s) q.0;
        left = empty-none (on b (came_from a s)) r.0;
        pawn = pawn-from (other a) (on b (went_to a s)) r.1;
      }

  passing_to : (e : Option ℕ) → EnPassant b a e → passing_fine b a e ≡ true
  passing_to None h = refl
  passing_to (Some s) h =
      and_from (eqb (row s) (passed_row a)) _ (eq-eqb (row s) (passed_row a) h.on_row)
      (and_from (empty (on b s)) _ (ap empty h.clear)
      (and_from (empty (on b (came_from a s))) _ (ap empty h.left) (ap (man_of (other a) Pawn) h.pawn ∙ pawn-to (other a))))

  side_from : (c : Side) → side_fine b c ≡ true → (kings b c ≡ 1) × (men b c ≤ 16)
  side_from c h = let p = and_parts (eqb (kings b c) 1) (leb (men b c) 16) h in (eqb-true (kings b c) 1 p.0, leb-true (men b c) 16 p.1)

  side_to : (c : Side) → kings b c ≡ 1 → men b c ≤ 16 → side_fine b c ≡ true
  side_to c h k = and_from (eqb (kings b c) 1) (leb (men b c) 16) (eq-eqb (kings b c) 1 h) (le-leb (men b c) 16 k)

pick : (P : Side → Type 0) → P White → P Black → (c : Side) → P c
pick P w k White = w
pick P w k Black = k

module _ (d : Diagram) where
  abbrev b : Squares
  b = d.board

  abbrev a : Side
  a = d.mover

  quiet_means : Decides (not (checked b (other a))) (Checked b (other a) → ⊥)
  quiet_means = Decides-not (checked b (other a)) (checked_means b (other a))

  kept_from : length b ≡ 64 → rules_kept b a (passing_of d) ≡ true → Lawful d
  unfolding rules_kept
  kept_from size h =
      let w = and_parts (side_fine b White) _ h in
      let k = and_parts (side_fine b Black) _ w.1 in
      let i = and_parts (pawns_inner b 64) _ k.1 in
      let s = and_parts (not (checked b (other a))) (passing_fine b a (passing_of d)) i.1 in
      let white = side_from b a White w.0 in
      let black = side_from b a Black k.0 in
      record {
        whole = size;
        one_king = pick (λ c. kings b c ≡ 1) white.0 black.0;
        few_men = pick (λ c. men b c ≤ 16) white.1 black.1;
        inner_pawns = λ s m l. (pawns_means b 64).0 i.0 s l m;
        quiet = quiet_means.0 s.0;
        passing = passing_from b a (passing_of d) s.1;
      }

  kept_to : Lawful d → rules_kept b a (passing_of d) ≡ true
  unfolding rules_kept
  kept_to h =
      and_from (side_fine b White) _ (side_to b a White (h.one_king White) (h.few_men White))
      (and_from (side_fine b Black) _ (side_to b a Black (h.one_king Black) (h.few_men Black))
      (and_from (pawns_inner b 64) _ ((pawns_means b 64).1 (λ s l m. h.inner_pawns s m l))
      (and_from (not (checked b (other a))) _ (quiet_means.1 h.quiet) (passing_to b a (passing_of d) h.passing))))

  pub lawful_means : Decides (lawful d) (Lawful d)
  unfolding lawful
  lawful_means = (
    λ h. let p = and_parts (eqb (length b) 64) (rules_kept b a (passing_of d)) h in kept_from (eqb-true (length b) 64 p.0) p.1,
    λ h. and_from (eqb (length b) 64) (rules_kept b a (passing_of d)) (eq-eqb (length b) 64 h.whole) (kept_to h),
  )

  pub lawful_is : length b ≡ 64 → rules_kept b a (passing_of d) ≡ lawful d
  unfolding lawful
  lawful_is h = sym (ap (λ x. x && rules_kept b a (passing_of d)) (eq-eqb (length b) 64 h))
