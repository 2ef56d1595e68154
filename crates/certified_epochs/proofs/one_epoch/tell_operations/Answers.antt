use Rattle.std.proofs.Common.{ℕ, List, ◌++◌, length, refl, ap, subst}
use Rattle.fv_outside.specs.Written.{GrowsByFront}
use Rattle.report_text.specs.Page.{Passes}
use Rattle.report_text.proofs.PassLaws.{Passes-then, on_err, ok_then, err_then}
use Rattle.certified_epochs.specs.Telling.{head_by, tail_by}
use Rattle.certified_epochs.specs.Pieces.{lines_of}
use Rattle.certified_epochs.proofs.LinesLemmas.{Passes-both, front-first, front-middle, front-last, text-parts}
use Rattle.certified_epochs.proofs.one_epoch.tell_operations.Goals as goal

pub returns-in_err-write_head-clause-front : goal.returns-in_err-write_head-clause-front
returns-in_err-write_head-clause-front g c =
    let functions = g.D.Digests.functions in
    let telling = c.args.telling.now in
    let head = head_by telling c.args.epoch (length c.args.operations.now) in
    let rest = lines_of functions telling c.args.operations.now ++ tail_by functions telling c.args.epoch in
    on_err _
    (subst (λ (text : List ℕ). GrowsByFront (g.O.Sink.held c.args.out.now) (g.O.Sink.held c.write_head.new.out) (c.args.page.now ++ text))
    (text-parts functions telling c.args.epoch c.args.operations.now)
    (front-first _ _ _ _ head rest (ap (head_by telling c.args.epoch) c.len.ensures.value) c.in_err-write_head.ensures.front))

pub returns-in_err-tell_groups-clause-front : goal.returns-in_err-tell_groups-clause-front
returns-in_err-tell_groups-clause-front g c =
    let functions = g.D.Digests.functions in
    let telling = c.args.telling.now in
    let head = head_by telling c.args.epoch (length c.args.operations.now) in
    let lines = lines_of functions telling c.args.operations.now in
    let tail = tail_by functions telling c.args.epoch in
    on_err _
    (subst (λ (text : List ℕ). GrowsByFront (g.O.Sink.held c.args.out.now) (g.O.Sink.held c.tell_groups.new.out) (c.args.page.now ++ text))
    (text-parts functions telling c.args.epoch c.args.operations.now)
    (front-middle _ _ _ _ _ _ head lines tail (ap (head_by telling c.args.epoch) c.len.ensures.value) c.in_ok-write_head.ensures.whole c.in_err-tell_groups.ensures.front))

pub returns-clause-whole : goal.returns-clause-whole
returns-clause-whole g c =
    let functions = g.D.Digests.functions in
    let telling = c.args.telling.now in
    let head = head_by telling c.args.epoch (length c.args.operations.now) in
    let lines = lines_of functions telling c.args.operations.now in
    let tail = tail_by functions telling c.args.epoch in
    ok_then c.write_tail.result
    (λ whole.
    subst (λ (text : List ℕ). Passes (g.O.Sink.held c.args.out.now) c.args.page.now text (g.O.Sink.held c.write_tail.new.out) c.write_tail.new.page)
    (text-parts functions telling c.args.epoch c.args.operations.now)
    (Passes-both _ _ _ _ _ _ _ (lines ++ tail) head (lines ++ tail) (ap (head_by telling c.args.epoch) c.len.ensures.value) refl c.in_ok-write_head.ensures.whole
    (Passes-then _ _ _ _ _ _ lines tail c.in_ok-tell_groups.ensures.whole whole)))
    c.write_tail.ensures.whole

pub returns-clause-front : goal.returns-clause-front
returns-clause-front g c =
    let functions = g.D.Digests.functions in
    let telling = c.args.telling.now in
    let head = head_by telling c.args.epoch (length c.args.operations.now) in
    let lines = lines_of functions telling c.args.operations.now in
    let tail = tail_by functions telling c.args.epoch in
    err_then c.write_tail.result
    (λ front.
    subst (λ (text : List ℕ). GrowsByFront (g.O.Sink.held c.args.out.now) (g.O.Sink.held c.write_tail.new.out) (c.args.page.now ++ text))
    (text-parts functions telling c.args.epoch c.args.operations.now)
    (front-last _ _ _ _ _ _ _ _ head lines tail (ap (head_by telling c.args.epoch) c.len.ensures.value) c.in_ok-write_head.ensures.whole c.in_ok-tell_groups.ensures.whole front))
    c.write_tail.ensures.front
