-- What is played leaves what a legal move leaves, and nothing else does.
use Rattle.std.proofs.Common.{◌≡◌, ℕ, ◌+◌, ◌*◌, ◌<◌, Bool, true, false, cond, not, ◌&&◌, eqb, ◌≢◌, ◌⊎◌, ◌↔◌, length, set, Some, None, Option, sym, refl, ap, ◌∙◌, subst, inl, inr, ⊎_elim, arith, get_or-set_other, get_or-set_same, length-set, ext_get_or}
use Rattle.std.proofs.lemmas.Bool.{and_parts, and_from, or_cases, or_left, or_right, eqb-true, eq-eqb, not-true, not_from_false, lt-ltb, false≢true, cases_eq}
use Rattle.board.specs.Squares.{file, row, square_at, reach, away}
use Rattle.board.specs.declared.direction.Direction.TheVariants.{North, South}
use Rattle.board.specs.declared.square.Square.{Square}
use Rattle.board.proofs.Same.{same_square}
use Rattle.chess_attacks.specs.declared.men.Man.{Man}
use Rattle.chess_attacks.specs.declared.men.Kind.{Kind}
use Rattle.chess_attacks.specs.declared.men.Kind.TheVariants.{Pawn}
use Rattle.chess_attacks.specs.declared.men.Side.{Side}
use Rattle.chess_attacks.specs.declared.men.Side.TheVariants.{White, Black}
use Rattle.chess_attacks.specs.Men.{Squares, on, given, other, is_pawn}
use Rattle.chess_attacks.specs.Commands.{Checked}
use Rattle.chess_attacks.specs.Lists.{beside, when, numbered}
use Rattle.chess_attacks.proofs.Sides.{pawn_kind}
use Rattle.chess_moves.specs.declared.diagram.Diagram.{Diagram}
use Rattle.chess_moves.specs.declared.step.Move.{Move}
use Rattle.chess_moves.specs.declared.step.Promotion.{Promotion}
use Rattle.chess_moves.specs.declared.step.Promotion.TheVariants.{Queen as ToQueen, Rook as ToRook, Bishop as ToBishop, Knight as ToKnight}
use Rattle.chess_moves.specs.Pawns.{forward, start_row, kind_of, becoming, is_passing, en_passant, two_rows, squared, passes}
use Rattle.chess_moves.specs.After.{moved, less_passed, after, played}
use Rattle.chess_moves.specs.Legal.{Holds, Ahead, Goes, Legal}
use Rattle.chess_moves.specs.Legal.Goes.{officer, step, two_step, capture, en_passant as takes_passing}
use Rattle.chess_moves.specs.Leaves.{ComesAs, Arrives, PawnGoes, TakesPassing, Leaves, MayGo, MovesLeave, LeftOnce, LegalIsSafe}
use Rattle.chess_moves.specs.Leaves.ComesAs.{stays, queen, rook, bishop, knight}
use Rattle.chess_moves.proofs.Legality.{passing_from, passing_to}
use Rattle.chess_moves.proofs.Numbers.{square-number}
use Rattle.chess_moves.proofs.Rows.{Rows, ahead-rows, take-rows, Over, stepped-over, over-beside, over-within}

ahead_file : (a : Side) (f t n : ℕ) → Ahead a f t n → file f ≡ file t
ahead_file White f t n h = omega (arith, h.OnBoard, h.target)
ahead_file Black f t n h = omega (arith, h.OnBoard, h.target)

-- of a man on f that goes to t
module _ (b : Squares) (e : Option ℕ) (m : Man) (f t : ℕ) (k : Option Promotion)
    (size : length b ≡ 64) (f_in : f < 64) (t_in : t < 64) (there : on b f ≡ Some m) (way : Goes b e m f t) where
  abbrev a : Side
  a = m.side

  abbrev M : Squares
  M = moved b m f t k

  abbrev X : Squares
  X = after b e m f t k

  -- the square of a pawn that is taken en passant
  abbrev P : ℕ
  P = square_at (file t) (row f)

  abbrev Passing : Type 0
  Passing = (m.kind ≡ Pawn) × (file f ≢ file t) × (e ≡ Some t)

  rows_apart : (c : Side) (n : ℕ) → 0 < n → Rows c f t n → f ≢ t
  rows_apart White n l r = λ z. omega arith
  rows_apart Black n l r = λ z. omega arith

  own_there : f ≡ t → Holds b a t
  own_there z = record { man = m; there = ap (on b) (sym z) ∙ there; of_side = refl }

  apart_by : Goes b e m f t → f ≢ t
  apart_by (officer n c h) = λ z. h (own_there z)
  apart_by (step p h c) = rows_apart a 1 (omega arith) (ahead-rows a f t 1 h)
  apart_by (two_step p r x h c) = rows_apart a 2 (omega arith) (ahead-rows a f t 2 h)
  apart_by (capture p c h) = rows_apart a 1 (omega arith) (take-rows b m f t p c)
  apart_by (takes_passing p c h) = rows_apart a 1 (omega arith) (take-rows b m f t p c)

  one_row_by : Goes b e m f t → m.kind ≡ Pawn → (file f ≢ file t) → Rows a f t 1
  one_row_by (officer n c h) p x = absurd (n p)
  one_row_by (step _ h c) p x = ahead-rows a f t 1 h
  one_row_by (two_step _ r y h c) p x = absurd (x (ahead_file a f t 2 h))
  one_row_by (capture _ c h) p x = take-rows b m f t p c
  one_row_by (takes_passing _ c h) p x = take-rows b m f t p c

  back : (c : Side) → Rows c f t 1 → beside (forward (other c)) t ≡ Some P
  back White r =
      let same : away South t 1 ≡ P = omega arith in
      ap (λ x. when x (away South t 1)) (lt-ltb 0 (reach South t) (omega arith)) ∙ ap Some same
  back Black r =
      let same : away North t 1 ≡ P = omega arith in
      ap (λ x. when x (away North t 1)) (lt-ltb 0 (reach North t) (omega arith)) ∙ ap Some same

  not_to : (c : Side) → Rows c f t 1 → t ≢ P
  not_to White r = λ z. omega arith
  not_to Black r = λ z. omega arith

  not_from : (file f ≢ file t) → f ≢ P
  not_from n = λ z. n (omega arith)

  -- the test tells whether the move takes en passant
  other_file : (x : Bool) → eqb (file f) (file t) ≡ x → (file f ≢ file t) → x ≡ false
  other_file true q n = absurd (n (eqb-true (file f) (file t) q))
  other_file false q n = refl

  passing_test : Passing → en_passant e m f t ≡ true
  passing_test q =
      and_from (is_pawn m.kind) (not (eqb (file f) (file t)) && is_passing e t) (ap is_pawn q.0)
      (and_from (not (eqb (file f) (file t))) (is_passing e t)
      (not_from_false (eqb (file f) (file t)) (other_file (eqb (file f) (file t)) refl q.1)) (passing_to e t q.2))

  after_is : (x : Bool) → en_passant e m f t ≡ x → X ≡ cond x (less_passed M a t) M
  unfolding after
  after_is x h = ap (λ y. cond y (less_passed M a t) M) h

  abbrev View : Type 0
  View = (Passing × (X ≡ set M P None)) ⊎ ((Passing → ⊥) × (X ≡ M))

  view_by : (x : Bool) → en_passant e m f t ≡ x → View
  view_by true h =
      let p = and_parts (is_pawn m.kind) (not (eqb (file f) (file t)) && is_passing e t) h in
      let s = and_parts (not (eqb (file f) (file t))) (is_passing e t) p.1 in
      let pawn : m.kind ≡ Pawn = pawn_kind m.kind p.0 in
      let differs : file f ≢ file t = λ z. false≢true (sym (not-true (eqb (file f) (file t)) s.0) ∙ eq-eqb (file f) (file t) z) in
      inl (
        (pawn, differs, passing_from e t s.1),
        after_is true h ∙ ap (λ (o : Option ℕ). given o M (λ s. set M s None)) (back a (one_row_by way pawn differs)),
      )
  view_by false h = inr (λ q. false≢true (sym h ∙ passing_test q), after_is false h)

  pub view : View
  view = view_by (en_passant e m f t) refl

  size_F : length (set b f None) ≡ 64
  size_F = length-set b f None ∙ size

  size_M : length M ≡ 64
  size_M = length-set (set b f None) t (Some (becoming m k)) ∙ size_F

  pub size_X : View → length X ≡ 64
  size_X (inl (q, z)) = ap length z ∙ (length-set M P None ∙ size_M)
  size_X (inr (n, z)) = ap length z ∙ size_M

  moved_from : on M f ≡ None
  moved_from = get_or-set_other (set b f None) t f (Some (becoming m k)) None (apart_by way) ∙ get_or-set_same b f None None (omega (arith, size))

  moved_to : on M t ≡ Some (becoming m k)
  moved_to = get_or-set_same (set b f None) t (Some (becoming m k)) None (omega (arith, size_F))

  moved_off : (s : ℕ) → s ≢ f → s ≢ t → on M s ≡ on b s
  moved_off s x y = get_or-set_other (set b f None) t s (Some (becoming m k)) None y ∙ get_or-set_other b f s None None x

  pub left_from : View → on X f ≡ None
  left_from (inl (q, z)) = ap (λ (c : Squares). on c f) z ∙ (get_or-set_other M P f None None (not_from q.1) ∙ moved_from)
  left_from (inr (n, z)) = ap (λ (c : Squares). on c f) z ∙ moved_from

  pub left_to : View → on X t ≡ Some (becoming m k)
  left_to (inl (q, z)) = ap (λ (c : Squares). on c t) z ∙ (get_or-set_other M P t None None (not_to a (one_row_by way q.0 q.1)) ∙ moved_to)
  left_to (inr (n, z)) = ap (λ (c : Squares). on c t) z ∙ moved_to

  pub left_taken : View → Passing → (s : ℕ) → s ≡ P → on X s ≡ None
  left_taken (inl (q, z)) p s w = ap (on X) w ∙ (ap (λ (c : Squares). on c P) z ∙ get_or-set_same M P None None (omega (arith, size_M)))
  left_taken (inr (n, z)) p s w = absurd (n p)

  pub left_rest : View → (s : ℕ) → s ≢ f → s ≢ t → (Passing → s ≢ P) → on X s ≡ on b s
  left_rest (inl (q, z)) s x y n = ap (λ (c : Squares). on c s) z ∙ (get_or-set_other M P s None None (n q) ∙ moved_off s x y)
  left_rest (inr (_, z)) s x y n = ap (λ (c : Squares). on c s) z ∙ moved_off s x y

  -- the square that is passed
  abbrev U : ℕ
  U = away (forward a) f 1

  abbrev OverTwo : ℕ → Type 0
  OverTwo s = (m.kind ≡ Pawn) × ((row t ≡ row f + 2) ⊎ (row f ≡ row t + 2)) × (file s ≡ file f) × (row s * 2 ≡ row f + row t)

  two_test : (m.kind ≡ Pawn) → (row t ≡ row f + 2) ⊎ (row f ≡ row t + 2) → (is_pawn m.kind && two_rows f t) ≡ true
  two_test p h =
      and_from (is_pawn m.kind) (two_rows f t) (ap is_pawn p)
      (⊎_elim (λ x. or_left (eqb (row t) (row f + 2)) (eqb (row f) (row t + 2)) (eq-eqb (row t) (row f + 2) x))
      (λ y. or_right (eqb (row t) (row f + 2)) (eqb (row f) (row t + 2)) (eq-eqb (row f) (row t + 2) y)) h)

  two_means : two_rows f t ≡ true → (row t ≡ row f + 2) ⊎ (row f ≡ row t + 2)
  two_means h =
      ⊎_elim (λ x. inl (eqb-true (row t) (row f + 2) x)) (λ y. inr (eqb-true (row f) (row t + 2) y))
      (or_cases (eqb (row t) (row f + 2)) (eqb (row f) (row t + 2)) h)

  -- U lies between, and nothing else does
  between_is : (c : Side) → row f ≡ start_row c → Ahead c f t 2
      → (file (away (forward c) f 1) ≡ file f) × (row (away (forward c) f 1) * 2 ≡ row f + row t)
  between_is White r h = (omega arith, omega (arith, h.target))
  between_is Black r h = (omega arith, omega (arith, h.target))

  between_one : (c : Side) (s : ℕ) → row f ≡ start_row c → Ahead c f t 2 → file s ≡ file f → row s * 2 ≡ row f + row t → away (forward c) f 1 ≡ s
  between_one White s r h x y = omega (arith, h.target)
  between_one Black s r h x y = omega (arith, h.target)

  pub passes_by : (x : Bool) → (is_pawn m.kind && two_rows f t) ≡ x → (s : ℕ)
      → (numbered (cond x (squared (beside (forward a) f)) None) ≡ Some s) ↔ OverTwo s
  passes_by true h s =
      let p = and_parts (is_pawn m.kind) (two_rows f t) h in
      let pawn : m.kind ≡ Pawn = pawn_kind m.kind p.0 in
      let o : Over b a f t = stepped-over b e m f t pawn p.1 way in
      let is : numbered (squared (beside (forward a) f)) ≡ Some U
      = ap (λ (u : Option ℕ). numbered (squared u)) (over-beside a f o.start) ∙ ap Some (square-number U (over-within a f f_in o.start)) in
      let r = between_is a o.start o.far in (
        λ q. let same : Some U ≡ Some s = sym is ∙ q in let z : U ≡ s = cc in
            (pawn, two_means p.1, ap file (sym z) ∙ r.0, ap (λ (u : ℕ). row u * 2) (sym z) ∙ r.1),
        λ q. is ∙ ap Some (between_one a s o.start o.far q.2 q.3),
      )
  passes_by false h s = (
    λ q. absurd (let z : ◌≡◌ {A = ℕ} 0 1 = cc in omega arith),
    λ q. absurd (false≢true (sym h ∙ two_test q.0 q.1)),
  )

-- what the man became
comes_by : (m : Man) (k : Option Promotion) → ComesAs m.kind k (becoming m k).kind
comes_by m None = stays
comes_by m (Some ToQueen) = queen
comes_by m (Some ToRook) = rook
comes_by m (Some ToBishop) = bishop
comes_by m (Some ToKnight) = knight

side_by : (m : Man) (k : Option Promotion) → (becoming m k).side ≡ m.side
side_by m None = refl
side_by m (Some k) = refl

same_some : {A : Type 0} (x y : A) → Some x ≡ Some y → x ≡ y
same_some x y e = cc

-- ---- a man that may go
module _ (d : Diagram) (size : length d.board ≡ 64) (v : Move) (h : MayGo d v) where
  abbrev f : ℕ
  f = v.from.number

  abbrev t : ℕ
  t = v.to.number

  abbrev m : Man
  m = h.man

  abbrev Seen : Type 0
  Seen = View d.board (numbered d.passing) m f t v.promotion size v.from.ok v.to.ok h.there h.way

  seen : Seen
  seen = view d.board (numbered d.passing) m f t v.promotion size v.from.ok v.to.ok h.there h.way

  abbrev left : Man → Diagram
  left m = record { board = after d.board (numbered d.passing) m f t v.promotion; mover = other d.mover; passing = passes m f t }

  played_is : played d v ≡ left m
  played_is = ap (λ (o : Option Man). given o d left) h.there

  pawn_is : PawnGoes d v → m.kind ≡ Pawn
  pawn_is g = let same : m ≡ g.man = same_some m g.man (sym h.there ∙ g.there) in ap (λ (n : Man). n.kind) same ∙ g.pawn

  taken_is : (s : ℕ) → TakesPassing d v s → (m.kind ≡ Pawn) × (file f ≢ file t) × (numbered d.passing ≡ Some t)
  taken_is s q = (pawn_is q.goes, q.aslant, q.passed)

  left_leaves : Leaves d v (left m)
  left_leaves = record {
    whole = size_X d.board (numbered d.passing) m f t v.promotion size v.from.ok v.to.ok h.there h.way seen;
    from = left_from d.board (numbered d.passing) m f t v.promotion size v.from.ok v.to.ok h.there h.way seen;
    to = λ n q.
        let same : m ≡ n = same_some m n (sym h.there ∙ q) in
        subst (λ (n : Man). Arrives n v (left m)) same
        (record {
          man = becoming m v.promotion;
          there = left_to d.board (numbered d.passing) m f t v.promotion size v.from.ok v.to.ok h.there h.way seen;
          of_side = side_by m v.promotion;
          comes_as = comes_by m v.promotion;
        });
    taken = λ s q.
        let x = q.on_file in
        let y = q.on_row in
        left_taken d.board (numbered d.passing) m f t v.promotion size v.from.ok v.to.ok h.there h.way seen (taken_is s q) s (omega arith);
    rest = λ s x y n.
        left_rest d.board (numbered d.passing) m f t v.promotion size v.from.ok v.to.ok h.there h.way seen s x y
        (λ q z. n (record {
          goes = record { man = m; there = h.there; pawn = q.0 };
          aslant = q.1;
          passed = q.2;
          on_file = omega (arith, v.from.ok, v.to.ok);
          on_row = omega (arith, v.from.ok, v.to.ok);
        }));
    passing = λ s.
        let r = passes_by d.board (numbered d.passing) m f t v.promotion size v.from.ok v.to.ok h.there h.way (is_pawn m.kind && two_rows f t) refl s in (
          λ q. let w = r.0 q in
              record { goes = record { man = m; there = h.there; pawn = w.0 }; far = w.1; on_file = w.2; on_row = w.3 },
          λ w. r.1 (pawn_is w.goes, w.far, w.on_file, w.on_row),
        );
    mover = refl;
  }

  pub board_is : (played d v).board ≡ after d.board (numbered d.passing) m f t v.promotion
  board_is = ap (λ (e : Diagram). e.board) played_is

  pub leaves_at : Leaves d v (played d v)
  leaves_at = subst (Leaves d v) (sym played_is) left_leaves

pub leaves : MovesLeave
leaves d size v h = leaves_at d size v h

pub leaves_as : (d : Diagram) → length d.board ≡ 64 → (v : Move) (e : Diagram) → e ≡ played d v → MayGo d v → Leaves d v e
leaves_as d size v e same h = subst (Leaves d v) (sym same) (leaves d size v h)

-- ---- and nothing else
turned : (k : Kind) → Option Promotion → Kind
turned k None = k
turned k (Some p) = kind_of p

turned_is : (k l : Kind) (o : Option Promotion) → ComesAs k o l → l ≡ turned k o
unfolding turned
turned_is k l o stays = refl
turned_is k l o queen = refl
turned_is k l o rook = refl
turned_is k l o bishop = refl
turned_is k l o knight = refl

same_arrival : (m : Man) (v : Move) (x y : Diagram) → Arrives m v x → Arrives m v y → on x.board v.to.number ≡ on y.board v.to.number
same_arrival m v x y p q =
    let side : p.man.side ≡ q.man.side = p.of_side ∙ sym q.of_side in
    let kind : p.man.kind ≡ q.man.kind = turned_is m.kind p.man.kind v.promotion p.comes_as ∙ sym (turned_is m.kind q.man.kind v.promotion q.comes_as) in
    p.there ∙ (ap Some (λ i. record { side = side i; kind = kind i }) ∙ sym q.there)

same_passing : (o u : Option Square) → ((s : ℕ) → numbered o ≡ Some s → numbered u ≡ Some s) → ((s : ℕ) → numbered u ≡ Some s → numbered o ≡ Some s) → o ≡ u
same_passing None None h k = refl
same_passing None (Some q) h k = let e = k q.number refl in absurd (let z : ◌≡◌ {A = ℕ} 0 1 = cc in omega arith)
same_passing (Some q) None h k = let e = h q.number refl in absurd (let z : ◌≡◌ {A = ℕ} 0 1 = cc in omega arith)
same_passing (Some q) (Some r) h k = ap Some (sym (same_square r q (same_some r.number q.number (h q.number refl))))

module _ (d : Diagram) (size : length d.board ≡ 64) (v : Move) (h : MayGo d v) (x y : Diagram) (p : Leaves d v x) (q : Leaves d v y) where
  abbrev S : ℕ
  S = square_at (file v.to.number) (row v.from.number)

  -- whether the move takes the pawn of a square
  takes : (s : ℕ) → TakesPassing d v s ⊎ (TakesPassing d v s → ⊥)
  takes s = go (seen d size v h) (cases_eq s S)
    where
      go : Seen d size v h → (s ≡ S) ⊎ (s ≡ S → ⊥) → TakesPassing d v s ⊎ (TakesPassing d v s → ⊥)
      go (inl (w, z)) (inl e) = inl (record {
        goes = record { man = h.man; there = h.there; pawn = w.0 };
        aslant = w.1;
        passed = w.2;
        on_file = omega (arith, v.from.ok, v.to.ok);
        on_row = omega (arith, v.from.ok, v.to.ok);
      })
      go (inl (w, z)) (inr n) = inr (λ r. let i = r.on_file in let j = r.on_row in n (omega arith))
      go (inr (n, z)) e = inr (λ r. n (taken_is d size v h s r))

  same_at : (s : ℕ) → on x.board s ≡ on y.board s
  same_at s = go (cases_eq s v.from.number) (cases_eq s v.to.number) (takes s)
    where
      go : (s ≡ v.from.number) ⊎ (s ≡ v.from.number → ⊥) → (s ≡ v.to.number) ⊎ (s ≡ v.to.number → ⊥)
          → TakesPassing d v s ⊎ (TakesPassing d v s → ⊥) → on x.board s ≡ on y.board s
      go (inl e) _ _ = ap (on x.board) e ∙ (p.from ∙ (sym q.from ∙ ap (on y.board) (sym e)))
      go (inr _) (inl e) _ = ap (on x.board) e ∙ (same_arrival h.man v x y (p.to h.man h.there) (q.to h.man h.there) ∙ ap (on y.board) (sym e))
      go (inr n) (inr k) (inl w) = p.taken s w ∙ sym (q.taken s w)
      go (inr n) (inr k) (inr w) = p.rest s n k w ∙ sym (q.rest s n k w)

  pub same_left : x ≡ y
  same_left =
      let board : x.board ≡ y.board = ext_get_or None x.board y.board (p.whole ∙ sym q.whole) (λ s l. same_at s) in
      let mover : x.mover ≡ y.mover = p.mover ∙ sym q.mover in
      let passing : x.passing ≡ y.passing
      = same_passing x.passing y.passing (λ s e. (q.passing s).1 ((p.passing s).0 e)) (λ s e. (p.passing s).1 ((q.passing s).0 e)) in
      λ i. record { board = board i; mover = mover i; passing = passing i }

pub left_once : LeftOnce
left_once d size v h e l = same_left d size v h e (played d v) l (leaves d size v h)

-- ---- a legal move
pub may_go : (d : Diagram) (v : Move) → Legal d v → MayGo d v
may_go d v h = record { man = h.man; there = h.there; ours = h.ours; way = h.way; turns = h.turns }

pub legal_leaves : (d : Diagram) → length d.board ≡ 64 → (v : Move) → Legal d v → Leaves d v (played d v)
legal_leaves d size v h = leaves d size v (may_go d v h)

pub legal_once : (d : Diagram) → length d.board ≡ 64 → (v : Move) → Legal d v → (e : Diagram) → Leaves d v e → e ≡ played d v
legal_once d size v h = left_once d size v (may_go d v h)

pub legal_safe : LegalIsSafe
unfolding may_go
legal_safe d size v = (
  λ h. (
    may_go d v h,
    λ e l c. h.safe (subst (λ (x : Squares). Checked x d.mover)
        (ap (λ (x : Diagram). x.board) (legal_once d size v h e l) ∙ board_is d size v (may_go d v h)) c),
  ),
  λ r.
      let g = r.0 in
      record {
        man = g.man;
        there = g.there;
        ours = g.ours;
        way = g.way;
        turns = g.turns;
        safe = λ c. r.1 (played d v) (leaves d size v g) (subst (λ (x : Squares). Checked x d.mover) (sym (board_is d size v g)) c);
      },
)
