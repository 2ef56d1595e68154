use Rattle.std.proofs.Common.{Ok, Err, refl, ap}
use Rattle.check_core.proofs.SealEndLemmas.{lines_known, fails, ends_whole, ends_cut, of_read, sealed_whole, sealed_cut, unsealed_as}
use Rattle.check_core.proofs.sealing.check_and_seal.Goals as goal

pub place_seal-requires-clause-read : goal.place_seal-requires-clause-read
place_seal-requires-clause-read g c = (_, c.in-Ok-Done.ensures.done c.in-Ok-Done.done (ap Ok c.in-Ok-Done.field-0-is))

pub returns-clause-seals : goal.returns-clause-seals
returns-clause-seals g c =
    fails (g.D.Digests.functions c.args.d.now) c.args.limit _ _ _ _ _ _ _ c.of_failure.result c.in-Err.failure c.of_failure.ensures.value c.in-Err.ensures.answers
    (λ is. c.in-Err.ensures.vault (ap Err is)) (record { number = refl; unwritten = refl })

pub returns-in-Ok-write_sealed-clause-seals : goal.returns-in-Ok-write_sealed-clause-seals
returns-in-Ok-write_sealed-clause-seals g c =
    let functions = g.D.Digests.functions c.args.d.now in
    let done = c.in-Ok-Done.done in
    let read = c.in-Ok-Done.ensures.done done (ap Ok c.in-Ok-Done.field-0-is) in
    let lines = lines_known functions c.args.limit _ _ _ _ _ c.in-Ok-Done.field-0 _ c.in-Ok-Done.field-0-is c.in-Ok-Done.ensures.answers in
    sealed_whole functions c.args.limit _ _ _ _ _ done.epochs lines done.header done.taken done.runs.items read _ _ _ _ c.in-Ok-write_sealed.ensures.whole
    (of_read functions c.args.limit _ _ _ _ _ done.epochs lines done.header done.taken done.runs.items read _ c.requires.limit c.in-Ok.ensures.placed)

pub returns-in-Ok-clause-seals : goal.returns-in-Ok-clause-seals
returns-in-Ok-clause-seals g c =
    let functions = g.D.Digests.functions c.args.d.now in
    let done = c.in-Ok-Done.done in
    let read = c.in-Ok-Done.ensures.done done (ap Ok c.in-Ok-Done.field-0-is) in
    let lines = lines_known functions c.args.limit _ _ _ _ _ c.in-Ok-Done.field-0 _ c.in-Ok-Done.field-0-is c.in-Ok-Done.ensures.answers in
    let written = c.in-Err-write_sealed.ensures in
    sealed_cut functions c.args.limit _ _ _ _ _ done.epochs lines done.header done.taken done.runs.items read _ _ _ _ written.front
    c.in-Ok-Done.ensures.never_falls written.counts.failed
    (of_read functions c.args.limit _ _ _ _ _ done.epochs lines done.header done.taken done.runs.items read _ c.requires.limit c.in-Ok.ensures.placed)

pub returns-in-Ok-Done-clause-seals : goal.returns-in-Ok-Done-clause-seals
returns-in-Ok-Done-clause-seals g c =
    let functions = g.D.Digests.functions c.args.d.now in
    let done = c.in-Ok-Done.done in
    let read = c.in-Ok-Done.ensures.done done (ap Ok c.in-Ok-Done.field-0-is) in
    let lines = lines_known functions c.args.limit _ _ _ _ _ c.in-Ok-Done.field-0 _ c.in-Ok-Done.field-0-is c.in-Ok-Done.ensures.answers in
    let unsealed = c.in-Err-place_seal.unsealed in
    let told = c.in-Err-place_seal.ensures in
    unsealed_as functions c.args.limit _ _ _ _ _ done.epochs lines done.header done.taken done.runs.items read _ _ c.status.result unsealed c.status.ensures.value
    (λ is. record { number = ap g.C.Counter.number (told.unasked (ap Err is)); unwritten = ap g.V.Sink.held (told.untouched (ap Err is)) })
    (λ is. record { number = told.unraised (ap Err is); unwritten = told.unwritten (ap Err is) })
    (λ is. told.counter_rose (ap Err is))
    (λ is. of_read functions c.args.limit _ _ _ _ _ done.epochs lines done.header done.taken done.runs.items read _ c.requires.limit (told.cut (ap Err is)))
    (λ is. told.vault_rose (ap Err is))

pub returns-in-Ok-write_end-clause-seals : goal.returns-in-Ok-write_end-clause-seals
returns-in-Ok-write_end-clause-seals g c =
    let functions = g.D.Digests.functions c.args.d.now in
    let end = c.in-Ok-Ended.end in
    let ended = c.in-Ok-Ended.ensures.ended end (ap Ok c.in-Ok-Ended.field-0-is) in
    let lines = lines_known functions c.args.limit _ _ _ _ _ c.in-Ok-Ended.field-0 _ c.in-Ok-Ended.field-0-is c.in-Ok-Ended.ensures.answers in
    ends_whole functions c.args.limit _ _ _ _ _ _ _ end lines ended (record { number = refl; unwritten = refl })
    c.in-Ok-write_end.status c.in-Ok-write_end.ensures.status _ _ c.in-Ok-write_end.ensures.line

pub returns-in-Ok-Ended-clause-seals : goal.returns-in-Ok-Ended-clause-seals
returns-in-Ok-Ended-clause-seals g c =
    let functions = g.D.Digests.functions c.args.d.now in
    let end = c.in-Ok-Ended.end in
    let ended = c.in-Ok-Ended.ensures.ended end (ap Ok c.in-Ok-Ended.field-0-is) in
    let lines = lines_known functions c.args.limit _ _ _ _ _ c.in-Ok-Ended.field-0 _ c.in-Ok-Ended.field-0-is c.in-Ok-Ended.ensures.answers in
    let written = c.in-Err-write_end.ensures in
    ends_cut functions c.args.limit _ _ _ _ _ _ _ end lines ended (record { number = refl; unwritten = refl }) _ _ written.front
    c.in-Ok-Ended.ensures.never_falls written.counts.failed
