-- What a splitter finds in a piece, by the bytes that it held and the piece behind them.
use Rattle.std.specs.Prelude.{◌≡◌, ℕ, ◌+◌, ◌<◌, List, [], ◌∷◌, ◌++◌, length, take, drop, Option, Some, None, IsTrue, IsSomeAnd}
use Rattle.lamport_clocks.specs.declared.header.Header.{Header}
use Rattle.bundle_frames.specs.declared.found.Fed.{Fed}
use Rattle.bundle_frames.specs.declared.found.Found.{Found}
use Rattle.bundle_frames.specs.declared.found.Found.TheVariants.{Nothing, Head, Frame, Bad}
use Rattle.bundle_frames.specs.Bundle.{Bundle, with_frames, header_bytes, header_in, head_bytes, frame_in}
use Rattle.bundle_frames.specs.Progress.{Progress, position, is_partial, is_bad, field_bytes}

-- the whole piece was taken, and the header or frame still lacks bytes
pub record FindsNothing (header : Option Header) (held piece : List ℕ) (taken : ℕ) : Type 0 where
  pub partial : IsTrue (is_partial header (held ++ piece))
  pub all : taken ≡ length piece

-- a header was due and is whole
pub record FindsHead (header : Option Header) (held piece : List ℕ) (taken : ℕ) (found : Header) : Type 0 where
  pub due : header ≡ None
  pub whole : header_in (held ++ piece) ≡ Some found
  pub size : length held + taken ≡ header_bytes found.version
  pub some : 0 < taken

-- a frame is whole
pub record FindsFrame (header : Header) (held piece : List ℕ) (taken verifier : ℕ) : Type 0 where
  pub whole : frame_in header.verifiers (held ++ piece)
      ≡ Some (record { verifier = verifier; body = drop head_bytes (held ++ take taken piece) })
  pub some : 0 < taken

-- the fields are all there and are bad; they were taken, and nothing behind them
pub record FindsBad (header : Option Header) (held piece : List ℕ) (taken : ℕ) : Type 0 where
  pub bad : IsTrue (is_bad header (held ++ piece))
  pub size : length held + taken ≡ field_bytes header (held ++ piece)

-- what each answer says, where a header or a frame begins at an offset
abbrev pub FindsIn : Option Header → ℕ → List ℕ → List ℕ → ℕ → Found → Type 0
FindsIn header offset held piece taken Nothing = FindsNothing header held piece taken
FindsIn header offset held piece taken (Head found) = FindsHead header held piece taken found
FindsIn header offset held piece taken (Frame verifier) = IsSomeAnd header (λ h. FindsFrame h held piece taken verifier)
FindsIn header offset held piece taken (Bad at) = (at ≡ offset) × FindsBad header held piece taken

-- the answer is right for the progress
abbrev pub Finds : Progress → List ℕ → Fed → Type 0
Finds p piece fed = FindsIn p.header p.offset p.held piece fed.taken fed.found

-- the progress after an answer, where these bytes were taken
abbrev pub progress_after : Progress → List ℕ → Found → Progress
progress_after p front Nothing = record p { held = p.held ++ front; body = [] }
progress_after p front (Head header) = record { header = Some header; offset = header_bytes header.version; held = []; body = [] }
progress_after p front (Frame verifier) =
    record p { offset = position p + length front; held = []; body = drop head_bytes (p.held ++ front) }
progress_after p front (Bad at) = record p { held = p.held ++ front; body = [] }

-- what was found, and the rest behind it
abbrev pub found_then : Found → List ℕ → Bundle → Bundle
found_then Nothing body rest = rest
found_then (Head header) body rest = rest
found_then (Frame verifier) body rest = with_frames (record { verifier = verifier; body = body } ∷ []) rest
found_then (Bad at) body rest = rest
