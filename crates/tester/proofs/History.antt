-- A tester's history: it grows by each call, and so each call is right.
use Rattle.std.proofs.Common.{◌≡◌, [], ◌∷◌, ◌++◌, subst, sym}
use Rattle.std.proofs.Math.Logic.{∥∥₁_map}
use Rattle.game.specs.declared.game.Game as game
use Rattle.table.specs.declared.Table as table
use Rattle.tester.specs.declared.reply.Reply.{Reply}
use Rattle.tester.specs.Calls.{Stand, made, Asked, Lent, Does, Event, none, then, Reached}
use Rattle.tester.specs.Claims.{Right}
use Rattle.tester.proofs.Lists.{joined, Theorems, right_after}
use Rattle.tester.proofs.Outright.{outright}

module _ {G T : Type 0} (g : game.Ghosts G) (h : table.Ghosts T) {s s' : Stand h} {c : Asked} {l l' : Lent} {r : Reply} (reached : ∥ Reached g h s ∥₁) (does : Does g h s c l r l' s') where
  pub goes_on : ∥ Reached g h s' ∥₁
  goes_on =
      let e : Event = record { call = c; lent = l; reply = r; left = l' } in
      ∥∥₁_map reached (λ x. (x.0, x.1 ++ (e ∷ []), joined x.2 (then {e = e} does none)))

  pub is_right : Theorems g h → Right g h s c r l'
  is_right th = outright g h does (∥∥₁_map reached (λ x. right_after g h th x.2 does))

-- a fresh game with a table that was cleared has the history of no call
pub begun : {G T : Type 0} (g : game.Ghosts G) (h : table.Ghosts T) (taken : h.storing.Standing) (s : Stand h) → s.current ≡ g.start → s.earlier ≡ []
    → s.standing ≡ h.storing.cleared taken → ∥ Reached g h s ∥₁
begun g h taken s p q e =
    let f : s ≡ made g h taken = λ i. record { current = p i; earlier = q i; standing = e i } in
    subst (λ (t : Stand h). ∥ Reached g h t ∥₁) (sym f) ∣ (taken, [], none) ∣₁
