-- A word with one bit, shifted: the bit moves, as long as it stays in the word.
use Rattle.std.proofs.Common.{◌≡◌, ℕ, ◌+◌, ◌*◌, ◌/◌, ◌%◌, ◌^◌, ◌<◌, sym, ap, ◌∙◌, arith}
use Rattle.std.proofs.lemmas.Nat.{pow-add, pow_below, shl-shr}

pub left : (cell a b k : ℕ) → cell ≡ 2 ^ a → b ≡ a + k → b < 64 → (cell * 2 ^ k) % 2 ^ 64 ≡ 2 ^ b
left cell a b k e f h =
    let g : cell * 2 ^ k ≡ 2 ^ b = ap (λ (x : ℕ). x * 2 ^ k) e ∙ sym (pow-add 2 a k) ∙ ap (λ (x : ℕ). 2 ^ x) (sym f) in
    ap (λ (x : ℕ). x % 2 ^ 64) g ∙ (let l : 2 ^ b % 2 ^ 64 ≡ 2 ^ b = omega (arith, pow_below b 64 h) in l)

pub right : (cell a b k : ℕ) → cell ≡ 2 ^ a → a ≡ b + k → cell / 2 ^ k ≡ 2 ^ b
right cell a b k e f =
    ap (λ (x : ℕ). x / 2 ^ k) (e ∙ ap (λ (x : ℕ). 2 ^ x) f ∙ pow-add 2 b k) ∙ shl-shr (2 ^ b) k
