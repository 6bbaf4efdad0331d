-- Forms of text: which texts are of a form, and where a text departs from one.
use Rattle.std.specs.Prelude.{◌≡◌, ℕ, suc, ◌-◌, ◌<◌, ◌≤◌, List, [], ◌∷◌, ◌++◌, length, take, replicate, Some, None, Ok, Err, Option, Result}

-- ---- what is meant by a place, for any set of texts

-- some text of the set goes on from x
abbrev pub Begins : (List ℕ → Type 0) → List ℕ → Type 0
Begins Texts x = (rest : List ℕ) × Texts (x ++ rest)

-- t is not one of the texts, and n bytes are the most of it that one of them begins with
pub record Departs (Texts : List ℕ → Type 0) (t : List ℕ) (n : ℕ) : Type 0 where
  pub other : Texts t → ⊥
  pub within : n ≤ length t
  pub so_far : Begins Texts (take n t)
  pub no_further : (m : ℕ) → n < m → m ≤ length t → Begins Texts (take m t) → ⊥

-- ---- a form as a reader sees it, byte by byte

-- where reading starts, where a byte leads (None: no text of the form goes on with it), and what a text that ends here says
-- (None: no text of the form ends here)
pub record Form (S A : Type 0) : Type 0 where
  pub first : S
  pub next : S → ℕ → Option S
  pub content : S → Option A

abbrev pub given : {A X : Type 0} → Option A → X → (A → X) → X
given None x f = x
given (Some a) x f = f a

-- where a text leads from a state
unfoldable pub led : {S A : Type 0} → Form S A → S → List ℕ → Option S
led f s [] = Some s
led f s (b ∷ t) = given (f.next s b) None (λ u. led f u t)

-- t is a text of the form, and says a
abbrev pub Says : {S A : Type 0} → Form S A → List ℕ → A → Type 0
Says {S} f t a = (s : S) × ((led f f.first t ≡ Some s) × (f.content s ≡ Some a))

-- the texts of the form
abbrev pub TextsOf : {S A : Type 0} → Form S A → List ℕ → Type 0
TextsOf {S} {A} f t = (a : A) × Says f t a

-- a state from which some text of the form comes to its end
abbrev pub Live : {S A : Type 0} → Form S A → S → Type 0
Live {S} {A} f s = (rest : List ℕ) × ((u : S) × ((a : A) × ((led f s rest ≡ Some u) × (f.content u ≡ Some a))))

-- what reading gives: what the text says, or the place where it departs from the form
unfoldable pub reading_from : {S A : Type 0} → Form S A → ℕ → S → List ℕ → Result A ℕ
reading_from f n s [] = given (f.content s) (Err n) (λ a. Ok a)
reading_from f n s (b ∷ t) = given (f.next s b) (Err n) (λ u. reading_from f (suc n) u t)

abbrev pub reading : {S A : Type 0} → Form S A → List ℕ → Result A ℕ
reading f t = reading_from f 0 f.first t

-- a form of which every state that reading comes to is live, among those that are fit
pub record Lively {S A : Type 0} (f : Form S A) (Fit : S → Type 0) : Type 0 where
  pub first_fits : Fit f.first
  pub next_fits : (s : S) (b : ℕ) (u : S) → Fit s → f.next s b ≡ Some u → Fit u
  pub lives : (s : S) → Fit s → Live f s

-- a text with so many blanks after it that it has n bytes
unfoldable pub padded : ℕ → List ℕ → List ℕ
padded n t = t ++ replicate (n - length t) 32
