use Rattle.std.proofs.Common.{◌≡◌, ℕ, List, [], ◌++◌, ◌∙◌, refl, ap, subst, append-nil}
use Rattle.std.proofs.lemmas.Result.{on_ok_weaker, on_err_weaker}
use Rattle.fv_outside.specs.Written.{Grows}
use Rattle.report_text.proofs.PassLaws.{Passes-empty, Passes-first, Passes-then, Passes-flush, Passes-front, Passes-stop, on_err}
use Rattle.load_summary.specs.declared.tally.Tally.{Tally}
use Rattle.load_summary.specs.Counting.{Counted}
use Rattle.load_summary.specs.Summary.{gen_line, epochs_line, worker_lines, end_line, summary_with_end}
use Rattle.load_summary.proofs.summary.Summary.write.Goals as goal

pub returns-in_err-write-clause-front : goal.returns-in_err-write-clause-front
returns-in_err-write-clause-front g c =
    on_err _ (Passes-stop _ _ _ [] _ [] _ _ (Passes-empty _ _ c.new-page.ensures.empty) c.in_err-write.ensures.front refl)

pub returns-in_err-write_workers-clause-front : goal.returns-in_err-write_workers-clause-front
returns-in_err-write_workers-clause-front g c =
    let head : List ℕ = gen_line c.args.seed c.args.ops ++ epochs_line c.args.epochs in
    let same : c.deref.result.now ≡ c.args.self.now.tallies = c.deref.ensures.value ∙ ap (λ (v : Counted). v.tallies) c.self.view_is in
    let first = Passes-first _ _ _ _ head _ c.new-page.ensures.empty (c.as_slice.ensures.value ∙ c.head_lines.ensures.text) c.in_ok-write.ensures.whole in
    on_err _
    (Passes-front _ _ _ [] _ head (worker_lines 0 c.deref.result.now) (end_line c.args.end.now) _ first c.in_err-write_workers.ensures.front
    (ap (λ (t : List Tally). (head ++ worker_lines 0 t) ++ end_line c.args.end.now) same))

pub returns-in_err-write-2-clause-front : goal.returns-in_err-write-2-clause-front
returns-in_err-write-2-clause-front g c =
    let head : List ℕ = gen_line c.args.seed c.args.ops ++ epochs_line c.args.epochs in
    let same : c.deref.result.now ≡ c.args.self.now.tallies = c.deref.ensures.value ∙ ap (λ (v : Counted). v.tallies) c.self.view_is in
    let first = Passes-first _ _ _ _ head _ c.new-page.ensures.empty (c.as_slice.ensures.value ∙ c.head_lines.ensures.text) c.in_ok-write.ensures.whole in
    let second = Passes-then _ _ _ _ _ _ _ _ first c.in_ok-write_workers.ensures.whole in
    on_err _
    (Passes-stop _ _ _ [] _ (head ++ worker_lines 0 c.deref.result.now) (end_line c.args.end.now) _ second c.in_err-write-2.ensures.front
    (ap (λ (t : List Tally). (head ++ worker_lines 0 t) ++ end_line c.args.end.now) same))

pub returns-clause-whole : goal.returns-clause-whole
returns-clause-whole g c =
    let head : List ℕ = gen_line c.args.seed c.args.ops ++ epochs_line c.args.epochs in
    let same : c.deref.result.now ≡ c.args.self.now.tallies = c.deref.ensures.value ∙ ap (λ (v : Counted). v.tallies) c.self.view_is in
    let first = Passes-first _ _ _ _ head _ c.new-page.ensures.empty (c.as_slice.ensures.value ∙ c.head_lines.ensures.text) c.in_ok-write.ensures.whole in
    let second = Passes-then _ _ _ _ _ _ _ _ first c.in_ok-write_workers.ensures.whole in
    let third = Passes-then _ _ _ _ _ _ _ _ second c.in_ok-write-2.ensures.whole in
    let all : (head ++ worker_lines 0 c.deref.result.now) ++ c.as_slice-2.result.now ≡ summary_with_end c.args.seed c.args.ops c.args.epochs c.args.self.now.tallies c.args.end.now =
    ap (λ (l : List ℕ). (head ++ worker_lines 0 c.deref.result.now) ++ l) (c.as_slice-2.ensures.value ∙ c.end_line.ensures.text)
    ∙ ap (λ (t : List Tally). (head ++ worker_lines 0 t) ++ end_line c.args.end.now) same in
    on_ok_weaker c.flush.result (λ grown. subst (Grows _ _) all (Passes-flush _ _ _ [] _ _ third grown)) c.flush.ensures.whole

pub returns-clause-front : goal.returns-clause-front
returns-clause-front g c =
    let head : List ℕ = gen_line c.args.seed c.args.ops ++ epochs_line c.args.epochs in
    let same : c.deref.result.now ≡ c.args.self.now.tallies = c.deref.ensures.value ∙ ap (λ (v : Counted). v.tallies) c.self.view_is in
    let first = Passes-first _ _ _ _ head _ c.new-page.ensures.empty (c.as_slice.ensures.value ∙ c.head_lines.ensures.text) c.in_ok-write.ensures.whole in
    let second = Passes-then _ _ _ _ _ _ _ _ first c.in_ok-write_workers.ensures.whole in
    let third = Passes-then _ _ _ _ _ _ _ _ second c.in_ok-write-2.ensures.whole in
    let all : (head ++ worker_lines 0 c.deref.result.now) ++ c.as_slice-2.result.now ≡ summary_with_end c.args.seed c.args.ops c.args.epochs c.args.self.now.tallies c.args.end.now =
    ap (λ (l : List ℕ). (head ++ worker_lines 0 c.deref.result.now) ++ l) (c.as_slice-2.ensures.value ∙ c.end_line.ensures.text)
    ∙ ap (λ (t : List Tally). (head ++ worker_lines 0 t) ++ end_line c.args.end.now) same in
    on_err_weaker c.flush.result (λ front. Passes-stop _ _ _ [] _ _ [] _ third front (append-nil _ ∙ all)) c.flush.ensures.front
