use Rattle.std.proofs.Common.{inl, refl}
use Rattle.verifier_threads.proofs.CutLemmas.{header-cut}
use Rattle.verifier_threads.proofs.laws.a_header_begins_the_bundle.Goals as goal

pub returns-clause-cut : goal.returns-clause-cut
returns-clause-cut c = λ account functions script vault vault_after out grown.
    header-cut c.rounds_make_a_bundle.ensures.opened c.rounds_make_a_bundle.ensures.more functions c.args.settings.now script c.requires.settings c.a_number_of_32_bits_is_below.ensures.below
    account vault vault_after out grown

pub returns-clause-fault : goal.returns-clause-fault
returns-clause-fault c = λ account functions script vault vault_after out grown. (
  header-cut c.rounds_make_a_bundle.ensures.opened c.rounds_make_a_bundle.ensures.more functions c.args.settings.now script c.requires.settings c.a_number_of_32_bits_is_below.ensures.below
      account vault vault_after out grown,
  inl (record { front = grown; out = refl }),
)
