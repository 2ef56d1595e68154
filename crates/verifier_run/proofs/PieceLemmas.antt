-- A piece behind the bytes of a command that is cut.
use Rattle.std.proofs.Common.{◌≡◌, ℕ, ◌+◌, ◌-◌, ◌<◌, ◌≤◌, ◌==◌, Bool, false, List, [], ◌++◌, length, take, drop, Option, Some, None, Ok, Err, refl, sym, ap, subst, ◌∙◌, inl, inr, append-nil, length-append, take-append-drop, arith}
use Rattle.std.specs.Prelude.{IfSome}
use Rattle.std.proofs.lemmas.Bool.{cases_lt, eqb-false}
use Rattle.std.proofs.lemmas.List.{take-append-le, take-take, length-take}
use Rattle.std.proofs.Math.Seq.{take-add, take-append-add, take-append_seam}
use Rattle.record_text.specs.declared.refusal.Refusal.{Refusal}
use Rattle.record_text.specs.declared.refusal.Refusal.TheVariants as refusals
use Rattle.record_text.specs.declared.reader.TextFault.TheVariants as faults
use Rattle.lamport_clocks.specs.declared.header.Header.{Header}
use Rattle.record_hash.specs.Functions.{DigestFunctions}
use Rattle.record_text.specs.Format.{LogFormat, format_of}
use Rattle.log_codec.specs.declared.log_command.LogCommand.{LogCommand}
use Rattle.log_codec.specs.LogCommand.{command_text, command_at, IsCommand}
use Rattle.log_codec.proofs.LogCommandLaws.{command_again}
use Rattle.verifier_commands.specs.Event.{Event}
use Rattle.verifier_run.specs.Course.{Course, refuse, after_command}
use Rattle.verifier_run.specs.Progress.{Progress, between_commands, progress_over, fed, weight, IsBetweenPieces}
use Rattle.verifier_run.proofs.CourseLemmas.{fed-joined, fed-weight, over-refused, over-malformed, over-cut, over-text, over-between, between-commands, header_in, fed-header}
use Rattle.log_codec.proofs.LogCommandLaws.{cut_fits}
use Rattle.merkle_records.specs.Scheme.{Scheme, scheme_of}

-- ---- apart from what is kept

pub between-held : {A : Type 0} (format : LogFormat) (course : Course A) (held : List ℕ) → held ≡ [] → IsBetweenPieces format (record { course = course; held = held })
between-held format course held none = subst (λ (held : List ℕ). IsBetweenPieces format (record { course = course; held = held })) (sym none) (between-commands format course)

none_refused : (refused : Option (ℕ × Refusal)) (held : List ℕ) → IfSome refused (λ at. held ≡ []) → 0 < length held → refused ≡ None
none_refused None held idle some = refl
none_refused (Some at) held idle some = absurd (omega (arith, ap (λ (held : List ℕ). length held) idle))

-- what the test whether bytes are held tells
pub some_held : (n : ℕ) (empty : Bool) → empty ≡ (n == 0) → empty ≡ false → 0 < n
some_held n empty is e =
    let more : (n == 0) ≡ false = sym is ∙ e in omega (arith, eqb-false _ _ more)

-- while bytes are held, no command was refused
pub none_refused_yet : {A : Type 0} (format : LogFormat) (course : Course A) (held : List ℕ) → IsBetweenPieces format (record { course = course; held = held }) → 0 < length held → course.refused ≡ None
none_refused_yet format course held between some = none_refused course.refused held between.idle some

-- the text is longer than the held bytes, since these are cut
pub longer_than_held : (format : LogFormat) (held more : List ℕ) (command : LogCommand) (len : ℕ) → command_at format held ≡ Err faults.Truncated → IsCommand format command → take len (held ++ more) ≡ command_text command → length held < len
longer_than_held format held more command len cut is spelled =
    elim (cases_lt (length held) len) [
      | inl longer ↦ longer
      | inr short ↦
          let front : take len held ≡ command_text command = sym (take-append-le len held more short) ∙ spelled in
          let whole : held ≡ command_text command ++ drop len held = sym (take-append-drop len held) ∙ ap (λ (text : List ℕ). text ++ drop len held) front in
          let found : command_at format held ≡ Ok (command, drop len held) = ap (command_at format) whole ∙ command_again format command (drop len held) is in
          absurd (cc)
    ]

-- where a command is still cut though there was room for more of the piece, the piece has ended
pub piece_ended : (header : Header) (held piece : List ℕ) (room : ℕ) → command_at (format_of header) (held ++ take room piece) ≡ Err faults.Truncated
    → 292 ≤ length held + room → length piece ≤ room
piece_ended header held piece room cut full =
    let short : length (held ++ take room piece) < 292 = cut_fits header (held ++ take room piece) cut in
    omega (arith, short, length-append held (take room piece), length-take room piece)

module _ {A : Type 0} (keeps : Event → List A) where
  -- ---- nothing is held

  -- ---- what a run that is between two pieces knows

  nothing_by : (scheme : Scheme) (course : Course A) (held : List ℕ) (refused : Option (ℕ × Refusal)) → course.refused ≡ refused → IsBetweenPieces scheme.format (record { course = course; held = held }) → fed keeps scheme (record { course = course; held = held }) [] ≡ record { course = course; held = held }
  nothing_by scheme course held None is between =
      ap (progress_over keeps scheme course) (append-nil held) ∙ over-cut keeps scheme course held is between.cut
  nothing_by scheme course held (Some at) is between =
      let none : held ≡ [] = subst (λ (refused : Option (ℕ × Refusal)). IfSome refused (λ at. held ≡ [])) is between.idle in
      over-refused keeps scheme course (held ++ []) at is
      ∙ ap (λ (held : List ℕ). record { course = course; held = held }) (sym none)

  -- no bytes do nothing
  pub fed-nothing : (scheme : Scheme) (course : Course A) (held : List ℕ) → IsBetweenPieces scheme.format (record { course = course; held = held }) → fed keeps scheme (record { course = course; held = held }) [] ≡ record { course = course; held = held }
  fed-nothing scheme course held between = nothing_by scheme course held course.refused refl between

  -- ---- a piece that begins with a command

  pub left_is_short : (functions : DigestFunctions) (header : Header) (course after : Course A) (piece left : List ℕ) → progress_over keeps (scheme_of functions header) course piece ≡ record { course = after; held = left } → length left < 292
  left_is_short functions header course after piece left is =
      cut_fits header left (subst (IsBetweenPieces (format_of header)) is (over-between keeps (scheme_of functions header) course piece)).cut

  pub left_between : (scheme : Scheme) (course after : Course A) (piece left : List ℕ) → progress_over keeps scheme course piece ≡ record { course = after; held = left } → IsBetweenPieces scheme.format (record { course = after; held = left })
  left_between scheme course after piece left is = subst (IsBetweenPieces scheme.format) is (over-between keeps scheme course piece)

  -- behind no held bytes a piece is all that there is
  pub alone : (scheme : Scheme) (course : Course A) (held piece : List ℕ) → held ≡ [] → fed keeps scheme (record { course = course; held = held }) piece ≡ progress_over keeps scheme course piece
  alone scheme course held piece none = ap (λ (held : List ℕ). progress_over keeps scheme course (held ++ piece)) none

  pub gone_on : (scheme : Scheme) (course after : Course A) (held piece left longer : List ℕ)
      → held ≡ [] → progress_over keeps scheme course piece ≡ record { course = after; held = left } → longer ≡ held ++ left
      → record { course = after; held = longer } ≡ fed keeps scheme (record { course = course; held = held }) piece
  gone_on scheme course after held piece left longer none is is_longer =
      ap (λ (held : List ℕ). record { course = after; held = held }) (is_longer ∙ ap (λ (held : List ℕ). held ++ left) none)
      ∙ (sym is ∙ sym (alone scheme course held piece none))

  -- ---- the rest of a command that was cut

  pub completed : (scheme : Scheme) (course after : Course A) (held piece nothing : List ℕ) (room len : ℕ) (command : LogCommand)
      → course.refused ≡ None → IsCommand scheme.format command → take len (held ++ take room piece) ≡ command_text command
      → length held < len → len ≤ length held + room → after ≡ after_command keeps scheme course command → nothing ≡ []
      → record { course = after; held = nothing } ≡ fed keeps scheme (record { course = course; held = held }) (take (len - length held) piece)
  completed scheme course after held piece nothing room len command none is spelled longer within is_after empty =
      let sum : len ≡ length held + (len - length held) = omega arith in
      let joined : command_text command ≡ held ++ take (len - length held) piece =
      sym spelled
      ∙ (ap (λ (n : ℕ). take n (held ++ take room piece)) sum
      ∙ (take-append-add held (take room piece) (len - length held)
      ∙ ap (λ (rest : List ℕ). held ++ rest) (take-take (len - length held) room piece (omega arith)))) in
      ap (λ (held : List ℕ). record { course = after; held = held }) empty
      ∙ (ap between_commands is_after
      ∙ (sym (over-text keeps scheme course command none is) ∙ ap (progress_over keeps scheme course) joined))

  pub malformed_behind : (scheme : Scheme) (course after : Course A) (held piece nothing : List ℕ)
      → course.refused ≡ None → command_at scheme.format (held ++ piece) ≡ Err faults.Malformed → after ≡ refuse course refusals.Malformed → nothing ≡ []
      → record { course = after; held = nothing } ≡ fed keeps scheme (record { course = course; held = held }) piece
  malformed_behind scheme course after held piece nothing none is is_after empty =
      ap (λ (held : List ℕ). record { course = after; held = held }) empty
      ∙ (ap between_commands is_after ∙ sym (over-malformed keeps scheme course (held ++ piece) none is))

  pub cut_behind : (scheme : Scheme) (course : Course A) (held piece longer : List ℕ)
      → course.refused ≡ None → command_at scheme.format (held ++ piece) ≡ Err faults.Truncated
      → longer ≡ held ++ piece → record { course = course; held = longer } ≡ fed keeps scheme (record { course = course; held = held }) piece
  cut_behind scheme course held piece longer none is is_longer =
      ap (λ (held : List ℕ). record { course = course; held = held }) is_longer ∙ sym (over-cut keeps scheme course (held ++ piece) none is)

  -- where memory was wanting, all is as it was
  pub restored : (scheme : Scheme) (course after : Course A) (held kept more : List ℕ) (n : ℕ)
      → IsBetweenPieces scheme.format (record { course = course; held = held }) → after ≡ course → n ≡ length held → kept ≡ take n (held ++ more)
      → record { course = after; held = kept } ≡ fed keeps scheme (record { course = course; held = held }) []
  restored scheme course after held kept more n between is_after len is =
      let same : kept ≡ held = is ∙ (ap (λ (n : ℕ). take n (held ++ more)) len ∙ take-append_seam held more) in
      ap (λ (course : Course A). record { course = course; held = kept }) is_after
      ∙ (ap (λ (held : List ℕ). record { course = course; held = held }) same
      ∙ sym (fed-nothing scheme course held between))

  -- once a command was refused, what is fed does nothing
  pub refused_stays : (scheme : Scheme) (course : Course A) (held piece : List ℕ) (at : ℕ × Refusal)
      → IsBetweenPieces scheme.format (record { course = course; held = held }) → course.refused ≡ Some at
      → record { course = course; held = held } ≡ fed keeps scheme (record { course = course; held = held }) piece
  refused_stays scheme course held piece at between is =
      let none : held ≡ [] = subst (λ (refused : Option (ℕ × Refusal)). IfSome refused (λ at. held ≡ [])) is between.idle in
      ap (λ (held : List ℕ). record { course = course; held = held }) none
      ∙ sym (over-refused keeps scheme course (held ++ piece) at is)

  -- ---- both, one after the other

  -- the scheme is that of the header, which stays
  same_scheme : (scheme_by : Header → Scheme) (old mid : Progress A) (front more : List ℕ)
      → mid ≡ fed keeps (scheme_by (header_in old)) old front → fed keeps (scheme_by (header_in mid)) mid more ≡ fed keeps (scheme_by (header_in old)) mid more
  same_scheme scheme_by old mid front more first =
      ap (λ (header : Header). fed keeps (scheme_by header) mid more) (ap header_in first ∙ fed-header keeps (scheme_by (header_in old)) old front)

  pub fed_both : (scheme_by : Header → Scheme) (old mid new : Progress A) (piece : List ℕ) (from : ℕ)
      → mid ≡ fed keeps (scheme_by (header_in old)) old (take from piece) → new ≡ fed keeps (scheme_by (header_in mid)) mid (drop from piece)
      → new ≡ fed keeps (scheme_by (header_in old)) old piece
  fed_both scheme_by old mid new piece from first second =
      let scheme = scheme_by (header_in old) in
      second
      ∙ same_scheme scheme_by old mid (take from piece) (drop from piece) first
      ∙ (ap (λ (progress : Progress A). fed keeps scheme progress (drop from piece)) first
      ∙ (fed-joined keeps scheme old (take from piece) (drop from piece)
      ∙ ap (fed keeps scheme old) (take-append-drop from piece)))

  pub fed_front : (scheme_by : Header → Scheme) (old mid new : Progress A) (piece : List ℕ) (from more : ℕ)
      → mid ≡ fed keeps (scheme_by (header_in old)) old (take from piece) → new ≡ fed keeps (scheme_by (header_in mid)) mid (take more (drop from piece))
      → new ≡ fed keeps (scheme_by (header_in old)) old (take (from + more) piece)
  fed_front scheme_by old mid new piece from more first second =
      let scheme = scheme_by (header_in old) in
      second
      ∙ same_scheme scheme_by old mid (take from piece) (take more (drop from piece)) first
      ∙ (ap (λ (progress : Progress A). fed keeps scheme progress (take more (drop from piece))) first
      ∙ (fed-joined keeps scheme old (take from piece) (take more (drop from piece))
      ∙ ap (fed keeps scheme old) (sym (take-add from more piece))))

  pub weight_all : (scheme : Scheme) (old new : Progress A) (piece : List ℕ)
      → new ≡ fed keeps scheme old piece → weight new ≤ weight old + length piece
  weight_all scheme old new piece is = subst (λ (progress : Progress A). weight progress ≤ weight old + length piece) (sym is) (fed-weight keeps scheme old piece)

  pub weight_front : (scheme : Scheme) (old new : Progress A) (piece : List ℕ) (from : ℕ)
      → new ≡ fed keeps scheme old (take from piece) → weight new + (length piece - from) ≤ weight old + length piece
  weight_front scheme old new piece from is =
      let most = weight_all scheme old new (take from piece) is in omega (arith, most, length-take from piece)
