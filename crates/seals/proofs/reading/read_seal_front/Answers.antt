use Rattle.std.proofs.Common.{◌∙◌, ap, sym, subst, take, drop, true≢false, arith}
use Rattle.record_text.proofs.FieldLaws.{AreBytes}
use Rattle.seals.specs.Seal.{tag_bytes}
use Rattle.seals.specs.Kept.{seal_in}
use Rattle.seals.specs.declared.answer.SealFront.{SealFront}
use Rattle.seals.specs.Answer.{IsFront}
use Rattle.seals.proofs.FrontLemmas.{front_fault, tag_cut, left_fits, seal_before}
use Rattle.seals.proofs.reading.read_seal_front.Goals as goal

pub returns-in-Err : goal.returns-in-Err
returns-in-Err g c =
    let functions = g.D.Digests.functions c.args.digests.now in
    let P : SealFront → _ = λ x. IsFront functions c.args.bytes.now x in
    record { answer = subst P (sym c.front_of.ensures.value) (front_fault functions c.args.bytes.now _ c.in-Err.fault c.in-Err.ensures.reads) }

pub returns-then-left-lt-TAG_LEN : goal.returns-then-left-lt-TAG_LEN
returns-then-left-lt-TAG_LEN g c = record { answer = tag_cut c.args.bytes.now _ (seal_in c.in-Ok.state) c.left-left.result c.in-Ok.ensures.reads c.left-left.ensures.value c.if-left-lt-TAG_LEN.true }

pub overflow_sub-bytes : goal.overflow_sub-bytes
overflow_sub-bytes g c = left_fits c.args.bytes.now _ (seal_in c.in-Ok.state) c.left-left.result (λ i. omega (arith, c.type_inv.bytes i)) c.in-Ok.ensures.reads c.left-left.ensures.value

pub is_tagged-requires : goal.is_tagged-requires
is_tagged-requires g c = record { there = omega (arith, c.split_at.ensures.back_len, c.if-left-lt-TAG_LEN.false, left_fits c.args.bytes.now _ (seal_in c.in-Ok.state) c.left-left.result (λ i. omega (arith, c.type_inv.bytes i)) c.in-Ok.ensures.reads c.left-left.ensures.value) }

pub returns-then-not-is_tagged : goal.returns-then-not-is_tagged
returns-then-not-is_tagged g c =
    let functions = g.D.Digests.functions c.args.digests.now in
    let fits : AreBytes c.args.bytes.now = λ i. omega (arith, c.type_inv.bytes i) in
    let before =
    seal_before c.args.bytes.now _ c.split_at.result.0.now c.split_at.result.1.now (seal_in c.in-Ok.state) c.left-left.result fits c.in-Ok.ensures.reads c.left-left.ensures.value c.if-left-lt-TAG_LEN.false c.split_at.ensures.front c.split_at.ensures.back c.split_at.ensures.front_len in record {
      answer = record {
        seal = seal_in c.in-Ok.state;
        tag = take tag_bytes c.split_at.result.1.now;
        rest = drop tag_bytes c.split_at.result.1.now;
        read = before.read;
        other = λ is. absurd (true≢false (sym (c.is_tagged.ensures.same.1 (ap functions.tag (sym before.front) ∙ is)) ∙ c.if-not-is_tagged.true));
      };
    }

pub returns : goal.returns
returns g c =
    let functions = g.D.Digests.functions c.args.digests.now in
    let fits : AreBytes c.args.bytes.now = λ i. omega (arith, c.type_inv.bytes i) in
    let before =
    seal_before c.args.bytes.now _ c.split_at.result.0.now c.split_at.result.1.now (seal_in c.in-Ok.state) c.left-left.result fits c.in-Ok.ensures.reads c.left-left.ensures.value c.if-left-lt-TAG_LEN.false c.split_at.ensures.front c.split_at.ensures.back c.split_at.ensures.front_len in record {
      answer = record {
        tag = take tag_bytes c.split_at.result.1.now;
        rest = drop tag_bytes c.split_at.result.1.now;
        read = before.read;
        tagged = ap functions.tag before.front ∙ c.is_tagged.ensures.same.0 c.if-not-is_tagged.false;
        counted = before.counted;
      };
    }
