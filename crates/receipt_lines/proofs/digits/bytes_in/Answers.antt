use Rattle.std.proofs.Common.{◌≡◌, ◌/◌, drop, length, Some, ◌∙◌, ap, sym, arith}
use Rattle.std.proofs.lemmas.List.{take_at}
use Rattle.receipt_lines.proofs.DigitLemmas.{bytes_in-long, bytes_in-other, bytes_in-decoded, bytes_in-refused, if-missing}
use Rattle.receipt_lines.proofs.digits.bytes_in.Goals as goal

pub returns-then-digits-clause-missing : goal.returns-then-digits-clause-missing
returns-then-digits-clause-missing c = λ _. bytes_in-long c.args.digits.now c.if-digits.true

pub returns-then-not-are_lower_digits-clause-missing : goal.returns-then-not-are_lower_digits-clause-missing
returns-then-not-are_lower_digits-clause-missing c = λ _. if-missing _ (bytes_in-other c.args.digits.now (sym c.are_lower_digits.ensures.value ∙ c.if-not-are_lower_digits.true))

pub returns-in-Ok-clause-found : goal.returns-in-Ok-clause-found
returns-in-Ok-clause-found c =
    let half : length c.as_mut_slice.result.now ≡ length c.args.digits.now / 2 =
    omega (arith, c.if-digits.false, c.truncate.ensures.len, ap length c.as_mut_slice.ensures.value, c.from-bytes.ensures.1) in
    let decoded = bytes_in-decoded c.args.digits.now (length c.as_mut_slice.result.now) c.decode_to_slice.result c.decode_to_slice.new.out
    (sym c.are_lower_digits.ensures.value ∙ c.if-not-are_lower_digits.false) half c.decode_to_slice.ensures.value c.in-Ok.is in
    let out = c.decode_to_slice.new.out in
    let room = c.truncate.new.self.items in
    let same : length out ≡ length room = c.decode_to_slice.auto.out ∙ ap length c.as_mut_slice.ensures.value in
    decoded ∙ ap Some (sym (take_at out (drop (length out) room) (length room) same))

pub returns-in-Err-clause-missing : goal.returns-in-Err-clause-missing
returns-in-Err-clause-missing c = λ _.
    let half : length c.as_mut_slice.result.now ≡ length c.args.digits.now / 2 =
    omega (arith, c.if-digits.false, c.truncate.ensures.len, ap length c.as_mut_slice.ensures.value, c.from-bytes.ensures.1) in
    if-missing _ (bytes_in-refused c.args.digits.now (length c.as_mut_slice.result.now) c.decode_to_slice.result c.decode_to_slice.new.out _
    (sym c.are_lower_digits.ensures.value ∙ c.if-not-are_lower_digits.false) half c.decode_to_slice.ensures.value c.in-Err.is)
