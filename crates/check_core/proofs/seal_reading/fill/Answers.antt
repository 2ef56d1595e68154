use Rattle.std.proofs.Common.{rules, ◌≡◌, ℕ, List, Option, take, ◌-◌, ◌≤◌, length, sym, subst, ◌∙◌, arith}
use Rattle.std.specs.Io.KnownBytes.{Consumes}
use Rattle.check_core.proofs.SealReadingLemmas.{read_behind, Consumes-then}
use Rattle.check_core.proofs.seal_reading.fill.Goals as goal

pub reads-preserved : goal.reads-preserved
reads-preserved g c =
    let last = c.reads.invariant in
    let next = c.in-Ok.ensures in
    let size = c.args.most - c.reads.until in
    record {
      len = search rules;
      from = omega (arith, last.from);
      within = search rules;
      bytes = λ start took. subst (λ (front : List ℕ). Consumes start (g.S.Source.left c.read.new.self) front)
          (sym (read_behind c.reads.until size c.in-Ok.count c.reads.room c.read.new.room (omega (arith, last.len, last.within, c.requires.most)) (next.bound.0)))
          (Consumes-then start (g.S.Source.left c.reads.source) (g.S.Source.left c.read.new.self) (take c.reads.until c.reads.room)
          (take c.in-Ok.count c.read.new.room) (last.bytes start took) next.bytes.0);
      never_falls = omega (arith, last.never_falls, next.counts.never_falls);
    }
