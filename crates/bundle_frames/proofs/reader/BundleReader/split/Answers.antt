use Rattle.std.proofs.Common.{◌≤◌, ℕ, ◌+◌, List, [], ◌∷◌, ◌++◌, length, drop, slice_range, sym, ap, subst, ◌∙◌, refl, arith}
use Rattle.std.specs.Prelude.{IsSomeAnd}
use Rattle.std.proofs.lemmas.List.Edits.{length-between}
use Rattle.bundle_frames.specs.declared.found.Found.{Found}
use Rattle.bundle_frames.specs.Bundle.{Bundle, IsFrame, with_frames}
use Rattle.bundle_frames.specs.Finds.{found_then, progress_after}
use Rattle.bundle_frames.specs.Progress.{Progress, rest_of}
use Rattle.bundle_frames.specs.Extent.{end_behind, IsDue}
use Rattle.bundle_frames.specs.Reading.{Reading}
use Rattle.bundle_frames.proofs.ExtentLemmas.{extent_fed, over_fed, due_fed, due_good}
use Rattle.bundle_frames.proofs.ReaderLemmas.{unread_none, unread_after, split_ahead, frame_same, frame_further}
use Rattle.bundle_frames.proofs.reader.BundleReader.split.Goals as goal

pub returns-in-Nothing-clause-rest : goal.returns-in-Nothing-clause-rest
returns-in-Nothing-clause-rest c =
    let s = c.self.inside in
    let fed = c.feed-fed in
    let room = ap (λ (xs : List ℕ). slice_range xs s.from s.until) c.deref.ensures.value in
    split_ahead rest_of (λ (b : Bundle). b) _ _ fed.new.self _ _ _ _ (sym (ap (λ (r : Reading). r.progress) c.self.view_is)) (sym (ap (λ (r : Reading). r.unread) c.self.view_is) ∙ sym room)
    (unread_after s.room.items s.from s.until fed.result.taken ∙ ap (drop fed.result.taken) (sym room))
    (λ more. fed.ensures.rest more ∙ ap (λ (f : Found). found_then f fed.new.self.body (rest_of fed.new.self (drop fed.result.taken (slice_range c.deref.result.now s.from s.until) ++ more))) c.in-Nothing.is)

pub returns-in-Head-clause-rest : goal.returns-in-Head-clause-rest
returns-in-Head-clause-rest c =
    let s = c.self.inside in
    let fed = c.feed-fed in
    let room = ap (λ (xs : List ℕ). slice_range xs s.from s.until) c.deref.ensures.value in
    split_ahead rest_of (λ (b : Bundle). b) _ _ fed.new.self _ _ _ _ (sym (ap (λ (r : Reading). r.progress) c.self.view_is)) (sym (ap (λ (r : Reading). r.unread) c.self.view_is) ∙ sym room)
    (unread_after s.room.items s.from s.until fed.result.taken ∙ ap (drop fed.result.taken) (sym room))
    (λ more. fed.ensures.rest more ∙ ap (λ (f : Found). found_then f fed.new.self.body (rest_of fed.new.self (drop fed.result.taken (slice_range c.deref.result.now s.from s.until) ++ more))) c.in-Head.is)

pub returns-in-Frame-clause-rest : goal.returns-in-Frame-clause-rest
returns-in-Frame-clause-rest c =
    let s = c.self.inside in
    let fed = c.feed-fed in
    let room = ap (λ (xs : List ℕ). slice_range xs s.from s.until) c.deref.ensures.value in
    split_ahead rest_of (with_frames (record { verifier = c.in-Frame.verifier; body = fed.new.self.body } ∷ [])) _ _ fed.new.self _ _ _ _ (sym (ap (λ (r : Reading). r.progress) c.self.view_is)) (sym (ap (λ (r : Reading). r.unread) c.self.view_is) ∙ sym room)
    (unread_after s.room.items s.from s.until fed.result.taken ∙ ap (drop fed.result.taken) (sym room))
    (λ more. fed.ensures.rest more ∙ ap (λ (f : Found). found_then f fed.new.self.body (rest_of fed.new.self (drop fed.result.taken (slice_range c.deref.result.now s.from s.until) ++ more))) c.in-Frame.is)

pub returns-in-Bad-clause-rest : goal.returns-in-Bad-clause-rest
returns-in-Bad-clause-rest c =
    let s = c.self.inside in
    let fed = c.feed-fed in
    let room = ap (λ (xs : List ℕ). slice_range xs s.from s.until) c.deref.ensures.value in
    split_ahead rest_of (λ (b : Bundle). b) _ _ fed.new.self _ _ _ [] (sym (ap (λ (r : Reading). r.progress) c.self.view_is)) (sym (ap (λ (r : Reading). r.unread) c.self.view_is) ∙ sym room)
    (unread_none s.room.items s.until s.until refl)
    (λ more. fed.ensures.rest more ∙ ap (λ (f : Found). found_then f fed.new.self.body (rest_of fed.new.self (drop fed.result.taken (slice_range c.deref.result.now s.from s.until) ++ more))) c.in-Bad.is
    ∙ fed.ensures.last _ c.in-Bad.is (drop fed.result.taken (slice_range c.deref.result.now s.from s.until) ++ more) ∙ sym (fed.ensures.last _ c.in-Bad.is more))

pub returns-in-Nothing-clause-extent : goal.returns-in-Nothing-clause-extent
returns-in-Nothing-clause-extent c =
    let s = c.self.inside in
    let fed = c.feed-fed in
    let same = ap (λ (r : Reading). r.progress) c.self.view_is in
    let room = ap (λ (xs : List ℕ). slice_range xs s.from s.until) c.deref.ensures.value in
    split_ahead end_behind (λ (n : ℕ). n) _ _ fed.new.self _ _ _ _ (sym same) (sym (ap (λ (r : Reading). r.unread) c.self.view_is) ∙ sym room)
    (unread_after s.room.items s.from s.until fed.result.taken ∙ ap (drop fed.result.taken) (sym room))
    (extent_fed s.splitter _ _ _ _ (subst IsDue (sym same) c.requires.due) fed.ensures.finds fed.ensures.taken fed.ensures.after)

pub returns-in-Head-clause-extent : goal.returns-in-Head-clause-extent
returns-in-Head-clause-extent c =
    let s = c.self.inside in
    let fed = c.feed-fed in
    let same = ap (λ (r : Reading). r.progress) c.self.view_is in
    let room = ap (λ (xs : List ℕ). slice_range xs s.from s.until) c.deref.ensures.value in
    split_ahead end_behind (λ (n : ℕ). n) _ _ fed.new.self _ _ _ _ (sym same) (sym (ap (λ (r : Reading). r.unread) c.self.view_is) ∙ sym room)
    (unread_after s.room.items s.from s.until fed.result.taken ∙ ap (drop fed.result.taken) (sym room))
    (extent_fed s.splitter _ _ _ _ (subst IsDue (sym same) c.requires.due) fed.ensures.finds fed.ensures.taken fed.ensures.after)

pub returns-in-Frame-clause-extent : goal.returns-in-Frame-clause-extent
returns-in-Frame-clause-extent c =
    let s = c.self.inside in
    let fed = c.feed-fed in
    let same = ap (λ (r : Reading). r.progress) c.self.view_is in
    let room = ap (λ (xs : List ℕ). slice_range xs s.from s.until) c.deref.ensures.value in
    split_ahead end_behind (λ (n : ℕ). n) _ _ fed.new.self _ _ _ _ (sym same) (sym (ap (λ (r : Reading). r.unread) c.self.view_is) ∙ sym room)
    (unread_after s.room.items s.from s.until fed.result.taken ∙ ap (drop fed.result.taken) (sym room))
    (extent_fed s.splitter _ _ _ _ (subst IsDue (sym same) c.requires.due) fed.ensures.finds fed.ensures.taken fed.ensures.after)

pub returns-in-Bad-clause-extent : goal.returns-in-Bad-clause-extent
returns-in-Bad-clause-extent c =
    let s = c.self.inside in
    let fed = c.feed-fed in
    let same = ap (λ (r : Reading). r.progress) c.self.view_is in
    let room = ap (λ (xs : List ℕ). slice_range xs s.from s.until) c.deref.ensures.value in
    let due = subst IsDue (sym same) c.requires.due in
    let over = over_fed s.splitter _ _ _ _ _ due fed.ensures.finds fed.ensures.taken fed.ensures.after c.in-Bad.is in
    split_ahead end_behind (λ (n : ℕ). n) _ _ fed.new.self _ _ _ [] (sym same) (sym (ap (λ (r : Reading). r.unread) c.self.view_is) ∙ sym room)
    (unread_none s.room.items s.until s.until refl)
    (λ more. extent_fed s.splitter _ _ _ _ due fed.ensures.finds fed.ensures.taken fed.ensures.after more
    ∙ over (drop fed.result.taken (slice_range c.deref.result.now s.from s.until) ++ more) ∙ sym (over more))

pub returns-in-Bad-clause-last : goal.returns-in-Bad-clause-last
returns-in-Bad-clause-last c = λ is more.
    let s = c.self.inside in
    let fed = c.feed-fed in
    let unread = slice_range s.room.items s.until s.until in
    fed.ensures.last _ c.in-Bad.is (unread ++ more) ∙ sym (fed.ensures.last _ c.in-Bad.is (unread ++ []))

pub returns-in-Bad-clause-over : goal.returns-in-Bad-clause-over
returns-in-Bad-clause-over c = λ is more.
    let s = c.self.inside in
    let fed = c.feed-fed in
    let same = ap (λ (r : Reading). r.progress) c.self.view_is in
    let room = ap (λ (xs : List ℕ). length (slice_range xs s.from s.until)) c.deref.ensures.value in
    let size = length-between s.room.items s.from s.until (omega arith) in
    let over = over_fed s.splitter _ _ _ _ _ (subst IsDue (sym same) c.requires.due) fed.ensures.finds fed.ensures.taken fed.ensures.after c.in-Bad.is (slice_range s.room.items s.until s.until ++ more) in
    subst (λ (n : ℕ). n ≤ s.taken) (sym over) (omega (arith, fed.ensures.position, fed.ensures.taken))

pub returns-in-Bad-clause-ended : goal.returns-in-Bad-clause-ended
returns-in-Bad-clause-ended c = λ is.
    let s = c.self.inside in
    let fed = c.feed-fed in
    record {
      unread = unread_none s.room.items s.until s.until refl;
      no_header =
          ap (λ (b : Bundle). b.header) (fed.ensures.last _ c.in-Bad.is (slice_range s.room.items s.until s.until ++ []))
          ∙ sym (ap (λ (p : Progress). p.header) (fed.ensures.after ∙ ap (progress_after s.splitter _) c.in-Bad.is));
      no_frames = ap (λ (b : Bundle). b.frames) (fed.ensures.last _ c.in-Bad.is (slice_range s.room.items s.until s.until ++ []));
    }

pub returns-in-Nothing-clause-due : goal.returns-in-Nothing-clause-due
returns-in-Nothing-clause-due c = λ other.
    let s = c.self.inside in
    let fed = c.feed-fed in
    let due = subst IsDue (sym (ap (λ (r : Reading). r.progress) c.self.view_is)) c.requires.due in
    let nothing = c.in-Nothing.is in
    due_fed s.splitter fed.new.self _ _ _ due fed.ensures.finds fed.ensures.after (λ at is. absurd (cc))

pub returns-in-Frame-clause-frame : goal.returns-in-Frame-clause-frame
returns-in-Frame-clause-frame c = λ verifier is.
    let fed = c.feed-fed in
    let InRange : Reading → Type 0 = λ r. IsSomeAnd r.progress.header (λ header. IsFrame header.verifiers (record { verifier = verifier; body = fed.new.self.body })) in
    subst InRange c.self.view_is (fed.ensures.frame verifier (c.in-Frame.is ∙ frame_same _ verifier is))

pub returns-in-Frame-clause-bytes : goal.returns-in-Frame-clause-bytes
returns-in-Frame-clause-bytes c = λ verifier is.
    let s = c.self.inside in
    let fed = c.feed-fed in
    let Onward : Reading → Type 0 = λ r. r.progress.offset + length fed.new.self.body ≤ fed.new.self.offset in
    subst Onward c.self.view_is (frame_further s.splitter fed.new.self _ c.in-Frame.verifier (fed.ensures.after ∙ ap (progress_after s.splitter _) c.in-Frame.is))

pub invariant_of-self-in-Bad : goal.invariant_of-self-in-Bad
invariant_of-self-in-Bad c =
    let s = c.self.inside in
    let fed = c.feed-fed in
    let room = ap (λ (xs : List ℕ). length (slice_range xs s.from s.until)) c.deref.ensures.value in
    let size = length-between s.room.items s.from s.until (omega arith) in
    record {
      room = c.self.invariant.room;
      from = omega arith;
      until = c.self.invariant.until;
      split = omega (arith, fed.ensures.position, fed.ensures.taken);
      due = λ due. absurd (due_good fed.new.self due (fed.ensures.stays _ c.in-Bad.is));
      within = c.self.invariant.within;
      limit = c.self.invariant.limit;
    }
