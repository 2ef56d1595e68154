use Rattle.std.proofs.Common.{◌≡◌, length, take, Err, refl, ap, arith}
use Rattle.std.proofs.lemmas.List.{length-take-le}
use Rattle.check_core.proofs.ResumingLemmas.{AreSound, resumes_on, by_faults}
use Rattle.check_core.proofs.SealReadingLemmas.{took_at_most}
use Rattle.check_core.proofs.RefusingLemmas.{whole_front}
use Rattle.check_core.proofs.UnresumedLemmas.{has_seal, not_current, unfound}
use Rattle.report_text.proofs.AnsweringLaws.{rose_before}
use Rattle.check_core.proofs.resuming.resume.Goals as goal

pub returns-in-Ok-is_current-clause-resumes : goal.returns-in-Ok-is_current-clause-resumes
returns-in-Ok-is_current-clause-resumes g c =
    let functions = g.D.Digests.functions c.args.d.now in
    let found = c.in-Ok.found in
    let next = c.in-Ok.ensures in
    let sound : AreSound functions = record {
      long = c.digests_are_sized.ensures.tags;
      good = λ bytes seal. c.what_is_kept_has_stood.ensures.seal functions bytes seal c.digests_have_32_bytes.ensures.sized c.digests_are_sized.ensures.lanes;
      read = c.seals_are_read_back.ensures.read;
      keeps = c.seals_keep_on.ensures.whole functions;
      unbad = λ bytes seal of. c.seals_keep_what_was_read.ensures.whole functions bytes seal.header seal.certified of.header of.done;
      have_read = c.seals_keep_what_was_read.ensures.read functions;
    } in
    resumes_on functions sound c.args.limit found (g.S.Source.left c.args.source.now) (g.S.Source.left c.find_seal.new.source) next.bytes
    (length-take-le found.until found.buffer.items (omega (arith, next.until, found.buffer.ok))) next.limited next.whole c.find_seal.ensures.near _ _ _ _ _ c.in-Ok-is_current.ensures.current
    c.is_current.ensures.number _ c.resume_from.ensures.outcomes
    (by_faults functions c.args.limit found _ _ _ _ _ (g.S.Source.faults c.args.source.now) _ _ (rose_before _ _ _ c.find_seal.ensures.never_falls) c.resume_from.ensures.from)

pub returns-in-Err-is_current-clause-resumes : goal.returns-in-Err-is_current-clause-resumes
returns-in-Err-is_current-clause-resumes g c =
    let functions = g.D.Digests.functions c.args.d.now in
    let found = c.in-Ok.found in
    let next = c.in-Ok.ensures in
    let sound : AreSound functions = record {
      long = c.digests_are_sized.ensures.tags;
      good = λ bytes seal. c.what_is_kept_has_stood.ensures.seal functions bytes seal c.digests_have_32_bytes.ensures.sized c.digests_are_sized.ensures.lanes;
      read = c.seals_are_read_back.ensures.read;
      keeps = c.seals_keep_on.ensures.whole functions;
      unbad = λ bytes seal of. c.seals_keep_what_was_read.ensures.whole functions bytes seal.header seal.certified of.header of.done;
      have_read = c.seals_keep_what_was_read.ensures.read functions;
    } in
    let x = g.S.Source.left c.args.source.now in
    let z = g.S.Source.left c.find_seal.new.source in
    let front = take found.until found.buffer.items in
    let size : length front ≡ found.until = length-take-le found.until found.buffer.items (omega (arith, next.until, found.buffer.ok)) in
    not_current functions sound c.args.limit z _ _ _ _ c.is_current.ensures.number found.state.counter c.in-Err-is_current.unresumed _ c.in-Err-is_current.ensures.stale
    c.refuse.ensures.told x (has_seal functions found.state found.count x (whole_front functions found.state found.count sound.keeps x z front next.bytes next.whole))
    c.find_seal.ensures.near (took_at_most c.args.limit x z front next.bytes (omega (arith, size, next.limited)))

pub returns-in-Err-clause-resumes : goal.returns-in-Err-clause-resumes
returns-in-Err-clause-resumes g c =
    let functions = g.D.Digests.functions c.args.d.now in
    let next = c.in-Err.ensures in
    let sound : AreSound functions = record {
      long = c.digests_are_sized.ensures.tags;
      good = λ bytes seal. c.what_is_kept_has_stood.ensures.seal functions bytes seal c.digests_have_32_bytes.ensures.sized c.digests_are_sized.ensures.lanes;
      read = c.seals_are_read_back.ensures.read;
      keeps = c.seals_keep_on.ensures.whole functions;
      unbad = λ bytes seal of. c.seals_keep_what_was_read.ensures.whole functions bytes seal.header seal.certified of.header of.done;
      have_read = c.seals_keep_what_was_read.ensures.read functions;
    } in
    unfound functions sound c.args.limit _ _ _ _ _ refl c.in-Err.unresumed _ next.unread c.refuse-in-Err.ensures.told (g.S.Source.left c.args.source.now)
    (λ is. next.bad_seal (ap Err is)) (λ is. next.not_tagged (ap Err is)) (λ is. next.limit (ap Err is)) (λ other. next.within (λ is. other (cc is)))
    (λ is. next.read_fault (ap Err is)) next.near (λ failure is. next.short failure (ap Err is)) (λ is. next.beyond (ap Err is))
