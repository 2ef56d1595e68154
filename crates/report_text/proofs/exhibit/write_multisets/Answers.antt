use Rattle.std.proofs.Common.{ℕ, List, [], ◌∙◌, refl, append-nil}
use Rattle.std.specs.List.{flat_map}
use Rattle.std.proofs.lemmas.Result.{on_ok_weaker, on_err_weaker}
use Rattle.report_text.specs.Exhibit.{multisets_line, evicted_line}
use Rattle.report_text.proofs.PassLaws.{Passes-empty, Passes-first, Passes-then, Passes-flush, Passes-front, Passes-stop, on_err}
use Rattle.report_text.proofs.exhibit.write_multisets.Goals as goal

pub returns-in_err-write-clause-front : goal.returns-in_err-write-clause-front
returns-in_err-write-clause-front g c =
    on_err _ (Passes-stop _ _ _ [] _ [] _ _ (Passes-empty _ _ c.new-page.ensures.empty) c.in_err-write.ensures.front refl)

pub returns-in_err-write_elements-clause-front : goal.returns-in_err-write_elements-clause-front
returns-in_err-write_elements-clause-front g c =
    let head : List ℕ = multisets_line c.args.epoch in
    let first = Passes-first _ _ _ _ head _ c.new-page.ensures.empty (c.as_slice.ensures.value ∙ c.multisets_line.ensures.text) c.in_ok-write.ensures.whole in
    on_err _ (Passes-front _ _ _ [] _ head _ (flat_map evicted_line c.args.evicted.now) _ first c.in_err-write_elements.ensures.front refl)

pub returns-in_err-write_elements-2-clause-front : goal.returns-in_err-write_elements-2-clause-front
returns-in_err-write_elements-2-clause-front g c =
    let head : List ℕ = multisets_line c.args.epoch in
    let first = Passes-first _ _ _ _ head _ c.new-page.ensures.empty (c.as_slice.ensures.value ∙ c.multisets_line.ensures.text) c.in_ok-write.ensures.whole in
    let second = Passes-then _ _ _ _ _ _ _ _ first c.in_ok-write_elements.ensures.whole in
    on_err _ (Passes-front _ _ _ [] _ _ _ [] _ second c.in_err-write_elements-2.ensures.front (append-nil _))

pub returns-clause-whole : goal.returns-clause-whole
returns-clause-whole g c =
    let head : List ℕ = multisets_line c.args.epoch in
    let first = Passes-first _ _ _ _ head _ c.new-page.ensures.empty (c.as_slice.ensures.value ∙ c.multisets_line.ensures.text) c.in_ok-write.ensures.whole in
    let second = Passes-then _ _ _ _ _ _ _ _ first c.in_ok-write_elements.ensures.whole in
    let third = Passes-then _ _ _ _ _ _ _ _ second c.in_ok-write_elements-2.ensures.whole in
    on_ok_weaker c.flush.result (λ grown. Passes-flush _ _ _ [] _ _ third grown) c.flush.ensures.whole

pub returns-clause-front : goal.returns-clause-front
returns-clause-front g c =
    let head : List ℕ = multisets_line c.args.epoch in
    let first = Passes-first _ _ _ _ head _ c.new-page.ensures.empty (c.as_slice.ensures.value ∙ c.multisets_line.ensures.text) c.in_ok-write.ensures.whole in
    let second = Passes-then _ _ _ _ _ _ _ _ first c.in_ok-write_elements.ensures.whole in
    let third = Passes-then _ _ _ _ _ _ _ _ second c.in_ok-write_elements-2.ensures.whole in
    on_err_weaker c.flush.result (λ front. Passes-stop _ _ _ [] _ _ [] _ third front (append-nil _)) c.flush.ensures.front
