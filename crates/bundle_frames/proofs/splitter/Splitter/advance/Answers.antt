use Rattle.std.proofs.Common.{◌≡◌, ℕ, ◌+◌, List, [], ◌++◌, length, take, drop, Option, subst, sym, ap, ◌∙◌, arith, length-append}
use Rattle.std.specs.Prelude.{Bool, if◌then◌else◌}
use Rattle.lamport_clocks.specs.declared.header.Header.{Header}
use Rattle.bundle_frames.specs.declared.found.Found.{Found}
use Rattle.bundle_frames.specs.declared.found.Found.TheVariants.{Frame}
use Rattle.bundle_frames.specs.Bundle.{head_bytes}
use Rattle.bundle_frames.specs.Progress.{Progress}
use Rattle.bundle_frames.specs.Finds.{FindsIn, progress_after}
use Rattle.bundle_frames.specs.Splitter.{bytes_held, progress_of}
use Rattle.bundle_frames.specs.Unfinished.{IsUnfinished}
use Rattle.bundle_frames.proofs.ExtentLemmas.{unfinished-nothing}
use Rattle.bundle_frames.proofs.FindsLaws.{unfinished-bad, frame-found}
use Rattle.bundle_frames.proofs.splitter.Splitter.advance.Goals as goal

pub invariant_of-self-in-Bad : goal.invariant_of-self-in-Bad
invariant_of-self-in-Bad c =
    let s = c.self.inside in
    let held = c.forget.new.buffer.items in
    let piece = c.args.piece.now in
    let n = c.read_on-fed.result.taken in
    let Finds : Found → Type 0 = λ found. FindsIn s.header s.offset held piece n found in
    let finds = subst Finds c.in-Bad.is c.read_on-fed.ensures.finds in
    let Unfinished : List ℕ → Type 0 = λ bytes. IsUnfinished s.header bytes in
    let Held : Bool → Type 0 = λ is_whole. Unfinished (if is_whole then [] else c.read_on-fed.new.buffer.items) in
    record {
      room = c.read_on-fed.ensures.capacity;
      whole_frame = λ is. absurd (cc);
      at_start = c.self.invariant.at_start;
      unfinished = subst Held (sym c.forget.ensures.whole)
          (subst Unfinished (sym c.read_on-fed.ensures.bytes) (unfinished-bad s.header held piece n finds.1 c.read_on-fed.ensures.taken));
    }

pub invariant_of-self-in-Frame : goal.invariant_of-self-in-Frame
invariant_of-self-in-Frame c =
    let s = c.self.inside in
    let held = c.forget.new.buffer.items in
    let piece = c.args.piece.now in
    let n = c.read_on-fed.result.taken in
    let Finds : Found → Type 0 = λ found. FindsIn s.header s.offset held piece n found in
    let found = frame-found s.header s.offset held piece n _ (subst Finds c.in-Frame.is c.read_on-fed.ensures.finds) c.read_on-fed.ensures.taken in
    record {
      room = c.read_on-fed.ensures.capacity;
      whole_frame = λ is. omega (arith, found.1, ap length c.read_on-fed.ensures.bytes);
      at_start = λ none. absurd (found.0 none);
      unfinished = found.2;
    }

pub invariant_of-self : goal.invariant_of-self
invariant_of-self c =
    let s = c.self.inside in
    let held = c.forget.new.buffer.items in
    let piece = c.args.piece.now in
    let n = c.read_on-fed.result.taken in
    let Finds : Found → Type 0 = λ found. FindsIn s.header s.offset held piece n found in
    let finds = subst Finds c.in-Nothing.is c.read_on-fed.ensures.finds in
    let Unfinished : List ℕ → Type 0 = λ bytes. IsUnfinished s.header bytes in
    let Held : Bool → Type 0 = λ is_whole. Unfinished (if is_whole then [] else c.read_on-fed.new.buffer.items) in
    record {
      room = c.read_on-fed.ensures.capacity;
      whole_frame = λ is. absurd (cc);
      at_start = c.self.invariant.at_start;
      unfinished = subst Held (sym c.forget.ensures.whole)
          (subst Unfinished (sym c.read_on-fed.ensures.bytes) (unfinished-nothing s.header held piece n finds));
    }

-- the progress behind a whole frame, whose bytes are the buffer's
frame-after : (header : Option Header) (offset : ℕ) (held front bytes : List ℕ) (size verifier : ℕ) → bytes ≡ held ++ front → size ≡ length bytes
    → (let old : Progress = record { header = header; offset = offset; held = held; body = [] } in
    let new : Progress = record { header = header; offset = offset + size; held = []; body = drop head_bytes bytes } in
    new ≡ progress_after old front (Frame verifier))
frame-after header offset held front bytes size verifier is all =
    let At : ℕ → Progress = λ n. record { header = header; offset = n; held = []; body = drop head_bytes bytes } in
    let With : List ℕ → Progress = λ xs. record { header = header; offset = offset + length held + length front; held = []; body = drop head_bytes xs } in
    let behind : offset + size ≡ offset + length held + length front = omega (arith, ap length is, length-append held front) in
    ap At behind ∙ ap With is

pub returns-in-Frame-clause-after : goal.returns-in-Frame-clause-after
returns-in-Frame-clause-after c =
    let s = c.self.inside in
    let fed = c.read_on-fed in
    let front = take fed.result.taken c.args.piece.now in
    let After : Found → Progress → Progress = λ found p. progress_after p front found in
    frame-after s.header s.offset (bytes_held s) front fed.new.buffer.items c.len.result c.in-Frame.field-0
    (fed.ensures.bytes ∙ ap (λ (held : List ℕ). held ++ front) c.forget.ensures.bytes) (omega arith)
    ∙ ap (λ (found : Found). After found (progress_of s)) (sym c.in-Frame.is) ∙ ap (After fed.result.found) c.self.view_is
