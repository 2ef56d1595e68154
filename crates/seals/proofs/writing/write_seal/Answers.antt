use Rattle.std.proofs.Common.{◌∙◌, ◌++◌, List, ℕ, map, ap, sym}
use Rattle.std.specs.List.{flat_map}
use Rattle.std.proofs.lemmas.List.Folds.{flat_map-map}
use Rattle.seals.specs.Run.{run_text}
use Rattle.seals.specs.Kept.{kept_in, seal_in}
use Rattle.seals.specs.Seal.{head_text, seal_text}
use Rattle.seals.proofs.WriteLemmas.{seal_joined, seal_long}
use Rattle.seals.proofs.writing.write_seal.Goals as goal

pub returns : goal.returns
returns g c =
    let functions = g.D.Digests.functions c.args.digests.now in
    let seal = seal_in c.args.state.now in
    let text_is =
    seal_joined functions.tag (head_text seal) (flat_map run_text (map kept_in c.args.state.now.runs.items)) _ _ _ _ _ c.new-text.ensures.items c.in_ok-write_head.ensures.text
    (c.in_ok-write_runs.ensures.text
    ∙ (ap (λ xs. c.write_head.new.text.items ++ flat_map (λ run. run_text (kept_in run)) xs) c.deref.ensures.value
    ∙ ap (λ (t : List ℕ). c.write_head.new.text.items ++ t) (sym (flat_map-map run_text kept_in c.args.state.now.runs.items))))
    c.in_ok-extend_from_slice.ensures.items (c.tag-tag.ensures.value ∙ ap functions.tag c.as_slice.ensures.value) in record {
      text = text_is;
      long = seal_long _ (functions.tag (seal_text seal)) seal text_is (g.met.D.Digests.tag_shape c.args.digests.now (seal_text seal)).size;
    }
