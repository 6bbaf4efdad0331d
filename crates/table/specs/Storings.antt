-- Where a table stands, and how it goes on from there.
use Rattle.std.specs.Prelude.{◌≡◌, ◌⊎◌, Some, None, ◌≢◌}
use Rattle.table.specs.declared.pair.Pair.{Pair}
use Rattle.table.specs.Pairs.{Code, Shown}

-- Where a table can stand, which may be more than the pairs that it shows, as ages or an order of use are; what a look-up then answers;
-- and where a store and a clear leave it.
pub record Storing : Type 1 where
  pub Standing : Type 0
  pub shows : Standing → Shown
  pub stored : Standing → Code → Pair → Standing
  pub cleared : Standing → Standing

-- A store may change what its code shows to the new pair or to none; what any other code shows it may only take away. After a clear nothing is
-- shown.
pub record Keeping (S : Storing) : Type 0 where
  pub own : (s : S.Standing) (c : Code) (p : Pair) →
      (S.shows (S.stored s c p) c ≡ Some p) ⊎ ((S.shows (S.stored s c p) c ≡ S.shows s c) ⊎ (S.shows (S.stored s c p) c ≡ None))
  pub other : (s : S.Standing) (c d : Code) (p : Pair) → (c ≢ d) →
      (S.shows (S.stored s c p) d ≡ S.shows s d) ⊎ (S.shows (S.stored s c p) d ≡ None)
  pub empties : (s : S.Standing) (c : Code) → S.shows (S.cleared s) c ≡ None
