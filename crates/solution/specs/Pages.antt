-- Lines written on a page.
use Rattle.std.specs.Prelude.{◌≡◌, ℕ, ◌+◌, ◌-◌, ◌*◌, ◌/◌, ◌<◌, ◌≤◌, Bool, false, cond, List, [], ◌∷◌, ◌++◌, length, take, drop, Ok, Err, Result, ◌==◌, slice_index_or}
use Rattle.solution_laws.specs.Lines.{Line, bytes, keys, duals}
use Rattle.solution_laws.specs.Solution.{other_line}
use Rattle.solution.specs.declared.page.Page.{Page}
use Rattle.solution.specs.declared.page.Full.{Full}

-- the buffer with a line's bytes in the place of number n
abbrev pub put : ℕ → Line → List ℕ → List ℕ
put n l buffer = take (8 * n) buffer ++ (bytes l ++ drop (8 * n + 8) buffer)

-- the buffer with these lines from the place of number n on
abbrev pub laid : List Line → ℕ → List ℕ → List ℕ
laid [] n buffer = buffer
laid (l ∷ ls) n buffer = laid ls (n + 1) (put n l buffer)

-- how many lines more a page takes
abbrev pub room : Page → ℕ
room p = length p.buffer.now / 8 - p.lines

-- these lines are written on a page, in its buffer, and counted
pub record Written (ls : List Line) (p p' : Page) : Type 0 where
  pub same : p'.buffer.ghost_name ≡ p.buffer.ghost_name
  pub long : length p'.buffer.now ≡ length p.buffer.now
  pub shown : p'.buffer.now ≡ laid ls p.lines p.buffer.now
  pub lines : p'.lines ≡ p.lines + length ls
  pub keys : p'.keys ≡ p.keys + keys ls
  pub duals : p'.duals ≡ p.duals + duals ls

-- lines are written: all of them, or as many as fit
abbrev pub Writes : List Line → Page → Result (Unit {0}) Full → Page → Type 0
Writes ls p (Ok u) p' = (length ls ≤ room p) × Written ls p p'
Writes ls p (Err e) p' = (room p < length ls) × Written (take (room p) ls) p p'

-- the line with `+` of the move number i, if there is to be one
abbrev pub other_at : ℕ → ℕ → ℕ → List Bool → List (List ℕ) → List Line
other_at k j i ws xs = cond (slice_index_or ws i false) (cond (i == j) [] (other_line k (slice_index_or xs i []) ∷ [])) []
