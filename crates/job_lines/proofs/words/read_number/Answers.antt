use Rattle.std.proofs.Common.{◌≡◌, ◌<◌, get_or, refl, arith, take_all, rules}
use Rattle.std.specs.Char.{digit_value}
use Rattle.std.proofs.lemmas.Int.Digits.{digits_more, digits_value_more}
use Rattle.job_lines.proofs.Digits.{digits_written}
use Rattle.job_lines.proofs.words.read_number.Goals as goal

pub loop-byte-preserved : goal.loop-byte-preserved
loop-byte-preserved c =
    let word = c.args.word.now in
    let i = c.loop-byte.byte-index in
    let d : (c.in_ok-number.field-0 < 10) × (c.in_ok-number.field-0 ≡ digit_value (get_or word i 0)) = search rules in (
      digits_more 10 word i c.loop-byte-test.true c.loop-byte.invariant.0 (omega (arith, d.0, d.1)),
      omega (arith, digits_value_more 10 word i c.loop-byte-test.true, d.1, c.loop-byte.invariant.1),
    )

pub returns : goal.returns
returns c =
    let all = rw (take_all c.loop-byte.byte-index c.args.word.now c.loop-byte-test.false) at c.loop-byte.invariant in
    digits_written _ _ (omega arith) (c.if-not-starts_number.ensures.0 refl) all.0 all.1
