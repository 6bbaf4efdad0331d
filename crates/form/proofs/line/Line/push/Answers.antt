use Rattle.std.proofs.Common.{◌≡◌, ℕ, ◌<◌, List, [], ◌∷◌, length, take, set, sym, ap, ◌∙◌, arith, length-take}
use Rattle.std.proofs.lemmas.List.{length-append, take_more_set}
use Rattle.form.specs.Forms.{padded}
use Rattle.form.proofs.Padding.{padded-more}
use Rattle.form.proofs.line.Line.push.Goals as goal

pub invariant_of-result-clause-blanks : goal.invariant_of-result-clause-blanks
invariant_of-result-clause-blanks c =
    let l = c.args.self in
    let b = c.args.byte in
    let h : l.len < length l.bytes = omega arith in
    let t = take l.len l.bytes in
    let k : length t ≡ l.len = omega (arith, length-take l.len l.bytes) in
    ap (λ (x : List ℕ). set x l.len b) l.blanks
    ∙ padded-more 87 t l.len b k (omega arith)
    ∙ sym (ap (padded 87) (take_more_set l.bytes l.len b h))

pub returns-clause-writes : goal.returns-clause-writes
returns-clause-writes c =
    let l = c.args.self in
    λ t h k.
    (let e = h.len in
    record {
      bytes = ap (λ (x : List ℕ). set x l.len c.args.byte) h.bytes ∙ padded-more 87 t l.len c.args.byte (sym e) (omega arith);
      len = omega (arith, e, length-append t (c.args.byte ∷ []));
    })
