use Rattle.std.proofs.Common.{◌≤◌, ◌+◌, ◌-◌, List, [], ℕ, sym, ap, subst, ◌∙◌, ◌++◌, length, take, length-append, length-take, arith}
use Rattle.lamport_clocks.specs.declared.header.Header.{Header}
use Rattle.record_text.specs.Format.{format_of}
use Rattle.log_codec.specs.LogCommand.{command_at, IsCommand}
use Rattle.merkle_records.specs.Scheme.{scheme_of}
use Rattle.verifier_run.specs.Progress.{Progress, fed}
use Rattle.verifier_run.proofs.PieceLemmas.{fed-nothing, some_held, none_refused_yet, between-held, longer_than_held, completed, malformed_behind, cut_behind, restored, piece_ended}
use Rattle.verifier_run.proofs.run.Run.complete.Goals as goal

pub returns-then-is_empty-clause-ok : goal.returns-then-is_empty-clause-ok
returns-then-is_empty-clause-ok g c =
    sym c.self.view_is
    ∙ (sym (fed-nothing g.T.Kept.keeps (scheme_of (g.D.Digests.functions c.args.d.now) c.self.inside.tracer.machine.header) c.self.inside.tracer c.self.inside.held.items c.self.invariant)
    ∙ ap (λ (progress : Progress g.row.T.Denot). fed g.T.Kept.keeps (scheme_of (g.D.Digests.functions c.args.d.now) progress.course.machine.header) progress []) c.self.view_is)

pub returns-in_default-clause-stop : goal.returns-in_default-clause-stop
returns-in_default-clause-stop g c =
    restored g.T.Kept.keeps (scheme_of (g.D.Digests.functions c.args.d.now) c.self.inside.tracer.machine.header) c.self.inside.tracer c.apply.new.self c.self.inside.held.items c.truncate.new.self.items
    c.front.result.now c.len-held.result c.self.invariant c.in_default.ensures.err c.len-held.ensures.value
    (c.truncate.ensures.items ∙ ap (take c.len-held.result) c.append.ensures.items)
    ∙ ap (λ (progress : Progress g.row.T.Denot). fed g.T.Kept.keeps (scheme_of (g.D.Digests.functions c.args.d.now) progress.course.machine.header) progress []) c.self.view_is

pub overflow_sub-result : goal.overflow_sub-result
overflow_sub-result g c =
    let text = c.as_slice.ensures.value ∙ c.append.ensures.items in
    let longer = longer_than_held (format_of c.self.inside.tracer.machine.header) c.self.inside.held.items c.front.result.now c.in-Read.command c.in-Read.len c.self.invariant.cut (subst (λ (h : Header). IsCommand (format_of h) c.in-Read.command) c.header.ensures.value c.in-Read.ensures.kind)
    (ap (take c.in-Read.len) (sym text) ∙ c.in-Read.ensures.found) in
    omega (arith, longer, c.len-held.ensures.value)

pub invariant_of-self-in-Read : goal.invariant_of-self-in-Read
invariant_of-self-in-Read g c = between-held (format_of c.apply.new.self.machine.header) c.apply.new.self c.clear.new.self.items c.clear.ensures

pub invariant_of-self-in-Malformed : goal.invariant_of-self-in-Malformed
invariant_of-self-in-Malformed g c = between-held (format_of c.refuse.new.self.machine.header) c.refuse.new.self c.clear-in-Malformed.new.self.items c.clear-in-Malformed.ensures

pub returns-in-Ok-clause-ok : goal.returns-in-Ok-clause-ok
returns-in-Ok-clause-ok g c =
    let some = some_held (length c.self.inside.held.items) c.is_empty.result c.is_empty.ensures c.if-is_empty.false in
    let text = c.as_slice.ensures.value ∙ (c.append.ensures.items ∙ ap (λ (more : List ℕ). c.self.inside.held.items ++ more) c.front.ensures.value) in
    let spelled = ap (take c.in-Read.len) (sym text) ∙ c.in-Read.ensures.found in
    let longer = longer_than_held (format_of c.self.inside.tracer.machine.header) c.self.inside.held.items (take c.min-room.result c.args.piece.now) c.in-Read.command c.in-Read.len c.self.invariant.cut (subst (λ (h : Header). IsCommand (format_of h) c.in-Read.command) c.header.ensures.value c.in-Read.ensures.kind) spelled in
    let whole = ap (λ (bytes : List ℕ). length bytes) text ∙ length-append c.self.inside.held.items (take c.min-room.result c.args.piece.now) in
    completed g.T.Kept.keeps (scheme_of (g.D.Digests.functions c.args.d.now) c.self.inside.tracer.machine.header) c.self.inside.tracer c.apply.new.self c.self.inside.held.items c.args.piece.now c.clear.new.self.items
    c.min-room.result c.in-Read.len c.in-Read.command
    (none_refused_yet (format_of c.self.inside.tracer.machine.header) c.self.inside.tracer c.self.inside.held.items c.self.invariant some) (subst (λ (h : Header). IsCommand (format_of h) c.in-Read.command) c.header.ensures.value c.in-Read.ensures.kind) spelled longer
    (omega (arith, whole, c.in-Read.ensures.within, length-take c.min-room.result c.args.piece.now)) c.in-Ok.ensures.ok c.clear.ensures
    ∙ (ap (λ (n : ℕ). fed g.T.Kept.keeps (scheme_of (g.D.Digests.functions c.args.d.now) c.self.inside.tracer.machine.header) (record { course = c.self.inside.tracer; held = c.self.inside.held.items }) (take (c.in-Read.len - n) c.args.piece.now)) (sym c.len-held.ensures.value)
    ∙ ap (λ (progress : Progress g.row.T.Denot). fed g.T.Kept.keeps (scheme_of (g.D.Digests.functions c.args.d.now) progress.course.machine.header) progress (take (c.in-Read.len - c.len-held.result) c.args.piece.now)) c.self.view_is)

pub returns-in-Malformed-clause-ok : goal.returns-in-Malformed-clause-ok
returns-in-Malformed-clause-ok g c =
    let some = some_held (length c.self.inside.held.items) c.is_empty.result c.is_empty.ensures c.if-is_empty.false in
    let text = c.as_slice.ensures.value ∙ (c.append.ensures.items ∙ ap (λ (more : List ℕ). c.self.inside.held.items ++ more) c.front.ensures.value) in
    malformed_behind g.T.Kept.keeps (scheme_of (g.D.Digests.functions c.args.d.now) c.self.inside.tracer.machine.header) c.self.inside.tracer c.refuse.new.self c.self.inside.held.items (take c.min-room.result c.args.piece.now) c.clear-in-Malformed.new.self.items
    (none_refused_yet (format_of c.self.inside.tracer.machine.header) c.self.inside.tracer c.self.inside.held.items c.self.invariant some)
    (ap (command_at (format_of c.self.inside.tracer.machine.header)) (sym text) ∙ (ap (λ (h : Header). command_at (format_of h) c.as_slice.result.now) (sym c.header.ensures.value) ∙ c.in-Malformed.ensures.exact)) c.refuse.ensures.refused c.clear-in-Malformed.ensures
    ∙ ap (λ (progress : Progress g.row.T.Denot). fed g.T.Kept.keeps (scheme_of (g.D.Digests.functions c.args.d.now) progress.course.machine.header) progress (take c.min-room.result c.args.piece.now)) c.self.view_is

pub returns-in-Truncated-clause-ok : goal.returns-in-Truncated-clause-ok
returns-in-Truncated-clause-ok g c =
    let some = some_held (length c.self.inside.held.items) c.is_empty.result c.is_empty.ensures c.if-is_empty.false in
    let longer = c.append.ensures.items ∙ ap (λ (more : List ℕ). c.self.inside.held.items ++ more) c.front.ensures.value in
    cut_behind g.T.Kept.keeps (scheme_of (g.D.Digests.functions c.args.d.now) c.self.inside.tracer.machine.header) c.self.inside.tracer c.self.inside.held.items (take c.min-room.result c.args.piece.now) c.append.new.held.items
    (none_refused_yet (format_of c.self.inside.tracer.machine.header) c.self.inside.tracer c.self.inside.held.items c.self.invariant some)
    (ap (command_at (format_of c.self.inside.tracer.machine.header)) (sym (c.as_slice.ensures.value ∙ longer)) ∙ (ap (λ (h : Header). command_at (format_of h) c.as_slice.result.now) (sym c.header.ensures.value) ∙ c.in-Truncated.ensures.exact)) longer
    ∙ ap (λ (progress : Progress g.row.T.Denot). fed g.T.Kept.keeps (scheme_of (g.D.Digests.functions c.args.d.now) progress.course.machine.header) progress (take c.min-room.result c.args.piece.now)) c.self.view_is

pub returns-in-Truncated-clause-none_held : goal.returns-in-Truncated-clause-none_held
returns-in-Truncated-clause-none_held g c = λ less.
    let longer = c.append.ensures.items ∙ ap (λ (more : List ℕ). c.self.inside.held.items ++ more) c.front.ensures.value in
    let room : 292 ≤ length c.self.inside.held.items + c.min-room.result = omega (arith, less, c.min-room.ensures, c.remaining_capacity.ensures) in
    let ended = piece_ended c.self.inside.tracer.machine.header c.self.inside.held.items c.args.piece.now c.min-room.result (ap (command_at (format_of c.self.inside.tracer.machine.header)) (sym (c.as_slice.ensures.value ∙ longer)) ∙ (ap (λ (h : Header). command_at (format_of h) c.as_slice.result.now) (sym c.header.ensures.value) ∙ c.in-Truncated.ensures.exact)) room in
    absurd (omega (arith, ended, less))
