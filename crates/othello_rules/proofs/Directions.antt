-- What a disc turns in some directions, and in all eight.
use Rattle.std.proofs.Common.{◌≡◌, ℕ, ◌+◌, ◌<◌, List, [], ◌∷◌, ◌++◌, length, get_or, take, sym, ap, ap₂, ◌∙◌}
use lib.Bits.{bit_or, or_zero_r}
use Rattle.std.specs.List.{flat_map}
use Rattle.std.proofs.lemmas.List.{take_more, flat_map_more}
use Rattle.board.specs.Masks.{mask}
use Rattle.board.specs.declared.direction.Direction.{Direction}
use Rattle.board.specs.declared.direction.Direction.TheVariants.{East, West, North, South, NorthEast, NorthWest, SouthEast, SouthWest}
use Rattle.board.proofs.Bits.{mask_append, or_assoc}

abbrev pub eight : List Direction
eight = East ∷ West ∷ North ∷ South ∷ NorthEast ∷ NorthWest ∷ SouthEast ∷ SouthWest ∷ []

module _ (f : Direction → List ℕ) where
  -- one direction more
  pub one_more : (ds : List Direction) (i : ℕ) (d : Direction) (t w : ℕ) → i < length ds → t ≡ mask (flat_map f (take i ds)) → w ≡ mask (f (get_or ds i d))
      → bit_or t w ≡ mask (flat_map f (take (i + 1) ds))
  one_more ds i d t w h e k =
      ap₂ bit_or e k
      ∙ sym (mask_append (flat_map f (take i ds)) (f (get_or ds i d)))
      ∙ ap mask (flat_map_more f [] (take i ds) (get_or ds i d) ∙ ap (flat_map f) (sym (take_more ds i d h)))

  pub all_eight : mask (flat_map f eight)
      ≡ mask (f East ++ f West ++ f North ++ f South ++ f NorthEast ++ f NorthWest ++ f SouthEast ++ f SouthWest)
  unfolding mask
  all_eight = simp (mask_append, or_assoc, or_zero_r)
