use Rattle.std.proofs.Common.{◌≡◌, ◌+◌, ◌<◌, length, take, drop, sym, ap, subst, ◌∙◌, refl, arith, ⊎_elim}
use Rattle.std.proofs.lemmas.Bool.{cases_lt}
use Rattle.std.proofs.lemmas.List.{length-take-le}
use Rattle.std.specs.Vec.{with_items}
use Rattle.bundle_frames.specs.Progress.{Progress, position, rest_of}
use Rattle.bundle_frames.specs.Extent.{end_behind, IsDue}
use Rattle.bundle_frames.specs.Reading.{Reading}
use Rattle.bundle_frames.proofs.ReadingLaws.{ReadsAs-none}
use Rattle.bundle_frames.proofs.ReaderLemmas.{unread_none, unread_some, unread_read, read_take, count_some, reads_front, same_ahead, end_further, end_near}
use Rattle.bundle_frames.proofs.reader.BundleReader.fill.Goals as goal

pub returns-then-self-clause-means : goal.returns-then-self-clause-means
returns-then-self-clause-means g c = ReadsAs-none _ _ _ _ (omega arith) (λ more. refl)

pub returns-then-self-clause-extent : goal.returns-then-self-clause-extent
returns-then-self-clause-extent g c = ReadsAs-none _ _ _ _ (omega arith) (λ more. refl)

pub returns-in-Err-clause-means : goal.returns-in-Err-clause-means
returns-in-Err-clause-means g c =
    let s = c.self.inside in
    let is = ap (λ (r : Reading). r.taken) c.self.view_is in
    ReadsAs-none _ _ _ _ (omega arith)
    (same_ahead rest_of _ _ _ _ (sym (ap (λ (r : Reading). r.progress) c.self.view_is))
    (sym (ap (λ (r : Reading). r.unread) c.self.view_is) ∙ unread_none s.room.items s.from s.until (omega arith) ∙ sym (unread_none (with_items s.room c.read_some.new.room).items s.from s.until (omega arith))))

pub returns-in-Err-clause-extent : goal.returns-in-Err-clause-extent
returns-in-Err-clause-extent g c =
    let s = c.self.inside in
    let is = ap (λ (r : Reading). r.taken) c.self.view_is in
    ReadsAs-none _ _ _ _ (omega arith)
    (same_ahead end_behind _ _ _ _ (sym (ap (λ (r : Reading). r.progress) c.self.view_is))
    (sym (ap (λ (r : Reading). r.unread) c.self.view_is) ∙ unread_none s.room.items s.from s.until (omega arith) ∙ sym (unread_none (with_items s.room c.read_some.new.room).items s.from s.until (omega arith))))

pub returns-then-read-self-clause-means : goal.returns-then-read-self-clause-means
returns-then-read-self-clause-means g c =
    let s = c.self.inside in
    let is = ap (λ (r : Reading). r.taken) c.self.view_is in
    ReadsAs-none _ _ _ _ (omega arith)
    (same_ahead rest_of _ _ _ _ (sym (ap (λ (r : Reading). r.progress) c.self.view_is))
    (sym (ap (λ (r : Reading). r.unread) c.self.view_is) ∙ unread_none s.room.items s.from s.until (omega arith) ∙ sym (unread_none (with_items s.room c.read_some.new.room).items s.from s.until (omega arith))))

pub returns-then-read-self-clause-extent : goal.returns-then-read-self-clause-extent
returns-then-read-self-clause-extent g c =
    let s = c.self.inside in
    let is = ap (λ (r : Reading). r.taken) c.self.view_is in
    ReadsAs-none _ _ _ _ (omega arith)
    (same_ahead end_behind _ _ _ _ (sym (ap (λ (r : Reading). r.progress) c.self.view_is))
    (sym (ap (λ (r : Reading). r.unread) c.self.view_is) ∙ unread_none s.room.items s.from s.until (omega arith) ∙ sym (unread_none (with_items s.room c.read_some.new.room).items s.from s.until (omega arith))))

pub returns-then-read-self-clause-beyond : goal.returns-then-read-self-clause-beyond
returns-then-read-self-clause-beyond g c = λ _.
    let s = c.self.inside in
    let p : Progress = c.args.self.now.progress in
    let same : s.splitter ≡ p = ap (λ (r : Reading). r.progress) c.self.view_is in
    let at : position s.splitter ≡ position p = ap position same in
    let all = c.self.invariant.due (subst IsDue (sym same) c.requires.due) in
    let size = length-take-le c.in-Ok.count c.read_some.new.room (omega (arith, c.in-Ok.ensures.bound, c.in-Ok.ensures.length)) in
    let bound = c.in-Ok.ensures.bound in
    let full : s.taken ≡ s.limit =
    ⊎_elim (λ below. absurd (omega (arith, c.wanted-want.ensures.within below))) (λ all. omega arith) (cases_lt s.taken s.limit) in
    end_further p s.limit (take c.in-Ok.count c.read_some.new.room) c.args.self.now.unread _ _ c.requires.due c.in-Ok.ensures.bytes.0
    (omega arith)
    (sym (ap (λ (r : Reading). r.unread) c.self.view_is) ∙ unread_none s.room.items s.from s.until (omega arith))
    (omega arith)

pub returns-clause-near : goal.returns-clause-near
returns-clause-near g c = λ more.
    let s = c.self.inside in
    let p : Progress = c.args.self.now.progress in
    let same : s.splitter ≡ p = ap (λ (r : Reading). r.progress) c.self.view_is in
    let at : position s.splitter ≡ position p = ap position same in
    let all = c.self.invariant.due (subst IsDue (sym same) c.requires.due) in
    let is = ap (λ (r : Reading). r.taken) c.self.view_is in
    let size = length-take-le c.in-Ok.count c.read_some.new.room (omega (arith, c.in-Ok.ensures.bound, c.in-Ok.ensures.length)) in
    end_near p s.taken (s.taken + c.in-Ok.count) (take c.in-Ok.count c.read_some.new.room) c.args.self.now.unread _ _ c.requires.due c.in-Ok.ensures.bytes.0
    (omega arith)
    (sym (ap (λ (r : Reading). r.unread) c.self.view_is) ∙ unread_none s.room.items s.from s.until (omega arith))
    (omega arith)
    (omega (arith, c.in-Ok.ensures.bound, c.wanted-want.ensures.room))

pub returns-clause-means : goal.returns-clause-means
returns-clause-means g c =
    let s = c.self.inside in
    let is = ap (λ (r : Reading). r.taken) c.self.view_is in
    let size = length-take-le c.in-Ok.count c.read_some.new.room (omega (arith, c.in-Ok.ensures.bound, c.in-Ok.ensures.length)) in
    reads_front rest_of c.args.self.now.progress s.splitter _ (take c.in-Ok.count c.read_some.new.room) c.args.self.now.unread _ _ _
    (sym (ap (λ (r : Reading). r.progress) c.self.view_is)) c.in-Ok.ensures.bytes.0 (omega arith)
    (sym (ap (λ (r : Reading). r.unread) c.self.view_is) ∙ unread_none s.room.items s.from s.until (omega arith))
    (unread_read (with_items s.room c.read_some.new.room).items c.in-Ok.count ∙ ap (take c.in-Ok.count) (read_take c.read_some.new.room _ s.room.len (omega (arith, c.in-Ok.ensures.length, c.deref_mut.ensures.len))))

pub returns-clause-extent : goal.returns-clause-extent
returns-clause-extent g c =
    let s = c.self.inside in
    let is = ap (λ (r : Reading). r.taken) c.self.view_is in
    let size = length-take-le c.in-Ok.count c.read_some.new.room (omega (arith, c.in-Ok.ensures.bound, c.in-Ok.ensures.length)) in
    reads_front end_behind c.args.self.now.progress s.splitter _ (take c.in-Ok.count c.read_some.new.room) c.args.self.now.unread _ _ _
    (sym (ap (λ (r : Reading). r.progress) c.self.view_is)) c.in-Ok.ensures.bytes.0 (omega arith)
    (sym (ap (λ (r : Reading). r.unread) c.self.view_is) ∙ unread_none s.room.items s.from s.until (omega arith))
    (unread_read (with_items s.room c.read_some.new.room).items c.in-Ok.count ∙ ap (take c.in-Ok.count) (read_take c.read_some.new.room _ s.room.len (omega (arith, c.in-Ok.ensures.length, c.deref_mut.ensures.len))))

pub returns-then-self-clause-some : goal.returns-then-self-clause-some
returns-then-self-clause-some g c = λ _.
    let s = c.self.inside in
    let Unread : Reading → Type 0 = λ r. 0 < length r.unread in
    subst Unread c.self.view_is (unread_some s.room.items s.from s.until (omega arith) (omega arith))

pub returns-clause-some : goal.returns-clause-some
returns-clause-some g c = λ is.
    let s = c.self.inside in
    let room = ap length (read_take c.read_some.new.room (drop (length c.read_some.new.room) s.room.items) s.room.len (omega (arith, c.in-Ok.ensures.length, c.deref_mut.ensures.len))) in
    unread_some (with_items s.room c.read_some.new.room).items 0 c.in-Ok.count (count_some c.in-Ok.count is) (omega (arith, c.in-Ok.ensures.bound, c.in-Ok.ensures.length))
