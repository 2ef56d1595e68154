use Rattle.std.proofs.Common.{◌≡◌, List, Result, Ok, Err, IfOk, map, sym, subst, arith}
use Rattle.std.specs.List.{AllByRecursion}
use Rattle.seals.specs.State.{KeptRun, Seal}
use Rattle.seals.specs.Kept.{kept_in}
use Rattle.resumed_runs.specs.Kept.{AreKeptOf, IsUnbroken}
use Rattle.certified_epochs.specs.declared.fed_run.FedRun.{FedRun}
use Rattle.check_core.proofs.SealedLemmas.{some_states, few_epochs, kept-seal}
use Rattle.check_core.proofs.sealing.seal_of.Goals as goal

-- what follows from what holds of a result holds of it
follows : {A E : Type 0} (P Q : A → Type 0) (r : Result A E) → IfOk r P → ((a : A) → P a → Q a) → IfOk r Q
follows P Q (Ok a) is more = more a is
follows P Q (Err e) is more = tt

-- what is kept of the same runs
of_same : (xs ys : List FedRun) (kept : List KeptRun) → xs ≡ ys → AreKeptOf (map (λ fed. fed.run) xs) kept → AreKeptOf (map (λ fed. fed.run) ys) kept
of_same xs ys kept same are = subst (λ (runs : List FedRun). AreKeptOf (map (λ fed. fed.run) runs) kept) same are

pub states_of-requires : goal.states_of-requires
states_of-requires g c = record {
  unbroken = subst (λ (runs : List FedRun). AllByRecursion IsUnbroken (map (λ fed. fed.run) runs)) (sym c.deref.ensures.value) c.requires.read.1.unbroken;
}

pub index-requires : goal.index-requires
index-requires g c =
    let done = c.args.done.now in
    let states = c.in_ok-runs.runs in
    let are = of_same _ done.runs.items (map kept_in states.items) c.deref.ensures.value c.in_ok-runs.ensures.kept in
    omega (arith, states.ok.0, some_states _ done.header _ done.taken done.epochs done.runs.items c.requires.read.1 states.items are)

pub prove-unreachable-requires : goal.prove-unreachable-requires
prove-unreachable-requires g c =
    let done = c.args.done.now in
    let states = c.in_ok-runs.runs.items in
    let are = of_same _ done.runs.items (map kept_in states) c.deref.ensures.value c.in_ok-runs.ensures.kept in
    let few = few_epochs _ done.header _ done.taken done.epochs done.runs.items c.requires.read.1 states are c.index.result.now c.index.ensures in
    omega (arith, c.if-prove.true, c.from-sealed.ensures, few)

pub returns-clause-text : goal.returns-clause-text
returns-clause-text g c =
    let done = c.args.done.now in
    let states = c.in_ok-runs.runs.items in
    let are = of_same _ done.runs.items (map kept_in states) c.deref.ensures.value c.in_ok-runs.ensures.kept in
    let seal : Seal = record { counter = 0; taken = done.taken; header = done.header; certified = done.epochs; runs = map kept_in states } in
    follows _ _ c.write_seal.result c.write_seal.ensures.text (λ text is bytes read. record {
      seal = seal;
      of = kept-seal _ done.header bytes done.taken done.epochs 0 done.runs.items states read are;
      text_is = is;
    })
