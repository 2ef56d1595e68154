use Rattle.std.proofs.Common.{List, ℕ, subst}
use Rattle.std.specs.Prelude.{OnOk, OnErr}
use Rattle.fv_outside.specs.Written.{Grows, GrowsByFront}
use Rattle.bundle_frames.proofs.HeaderLaws.{header_text-front}
use Rattle.bundle_frames.proofs.writers.write_header.Goals as goal

pub returns-clause-whole : goal.returns-clause-whole
returns-clause-whole g c =
    let held = g.O.Sink.held in
    let Whole : List ℕ → Type 0 = λ text. OnOk c.write_all.result (Grows (held c.args.sink.now) (held c.write_all.new.sink) text) in
    subst Whole (header_text-front c.args.h.now _ _ c.header_bytes.ensures.value c.spell_header.ensures.text) c.write_all.ensures.whole

pub returns-clause-front : goal.returns-clause-front
returns-clause-front g c =
    let held = g.O.Sink.held in
    let Front : List ℕ → Type 0 = λ text. OnErr c.write_all.result (GrowsByFront (held c.args.sink.now) (held c.write_all.new.sink) text) in
    subst Front (header_text-front c.args.h.now _ _ c.header_bytes.ensures.value c.spell_header.ensures.text) c.write_all.ensures.front
