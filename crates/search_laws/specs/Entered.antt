-- The frames that are entered until a run has come to its outcome.
use Rattle.std.specs.Prelude.{ℕ, List, [], ◌∷◌, ◌++◌}
use Rattle.game.specs.Tree.{Tree}
use Rattle.table.specs.declared.pair.Pair.{Pair}
use Rattle.table.specs.Storings.{Storing}
use Rattle.search_laws.specs.declared.thresholds.Thresholds.{Thresholds}
use Rattle.search_laws.specs.Run.{Outcome, stopped, gave, Enters, none_left, counted, Works, gives, stops, works_on}

-- a frame: its position and its two thresholds
pub record Frame : Type 0 where
  pub at : Tree
  pub thresholds : Thresholds

-- the frames that are entered, in order
unfoldable mutual
  pub frames : {S : Storing} {standing : S.Standing} {left : ℕ} {t : Tree} {l : Thresholds} {o : Outcome S.Standing} →
      Enters S standing left t l o → List Frame
  frames none_left = []
  frames (counted {t = t} {l} w) = record { at = t; thresholds = l } ∷ frames_within w

  pub frames_within : {S : Storing} {standing : S.Standing} {left : ℕ} {t : Tree} {l : Thresholds} {ps : List Pair} {o : Outcome S.Standing} →
      Works S standing left t l ps o → List Frame
  frames_within (gives h r) = []
  frames_within (stops h b e) = frames e
  frames_within (works_on h b e w) = frames e ++ frames_within w

-- the expansions that are left
abbrev pub left_after : {A : Type 0} → Outcome A → ℕ
left_after (stopped standing) = 0
left_after (gave standing left p) = left
