-- The number of a text in a list of texts, or none.
use Rattle.std.specs.Prelude.{◌≡◌, ℕ, ◌<◌, List, [], length, Option, MatchOption, ◌≢◌, slice_index_or}

abbrev pub Finds : List (List ℕ) → List ℕ → Option ℕ → Type 0
Finds xs x r =
    MatchOption r ((i : ℕ) → i < length xs → slice_index_or xs i [] ≢ x) (λ i. (i < length xs) × (slice_index_or xs i [] ≡ x))
