use Rattle.std.proofs.Common.{◌∙◌, ◌++◌, List, ℕ, ap}
use Rattle.std.specs.Int.{w32, w64, to_be_bytes}
use Rattle.bundle_frames.specs.Bundle.{header_text}
use Rattle.seals.specs.Seal.{magic_number}
use Rattle.seals.proofs.WriteLemmas.{head_joined}
use Rattle.seals.proofs.writing.write_head.Goals as goal

pub returns : goal.returns
returns c =
    let state = c.args.state.now in record {
      text = head_joined c.args.text.now.items (to_be_bytes w32 magic_number) (to_be_bytes w64 c.args.state.now.counter) (to_be_bytes w64 c.args.state.now.taken) (header_text c.args.state.now.header) (to_be_bytes w32 c.args.state.now.certified) _ _ _
          (c.in_ok-extend_from_slice.ensures.items ∙ ap (λ (t : List ℕ). c.args.text.now.items ++ t) (c.as_slice.ensures.value ∙ c.numbers_text.ensures.text))
          c.in_ok-write_header.ensures.text
          (c.in_ok-extend_from_slice-2.ensures.items ∙ ap (λ (t : List ℕ). c.write_header.new.text.items ++ t) c.to_be_bytes.ensures);
    }
