use Rattle.std.proofs.Common.{◌∙◌, ◌++◌, List, ℕ, ap}
use Rattle.bundle_frames.proofs.HeaderLaws.{header_text-front}
use Rattle.seals.proofs.writing.write_header.Goals as goal

pub returns : goal.returns
returns c = record {
  text = c.in_ok-extend_from_slice.ensures.items
      ∙ ap (λ (t : List ℕ). c.args.text.now.items ++ t) (header_text-front c.args.header.now _ _ c.header_bytes.ensures.value c.spell_header.ensures.text);
}
