use Rattle.bundle_report.specs.Report.{operations_told}
use Rattle.run_reports.proofs.TextLemmas.{texts_of_none, certifies_none, empty_end, empty_lines}
use Rattle.run_reports.proofs.laws.logs_of_no_bytes_certify_nothing.Goals as goal

pub returns : goal.returns
returns c = record {
  end = λ functions header. empty_end functions header header.verifiers;
  lines = λ tell functions header. empty_lines functions header header.verifiers tell;
  epochs = λ functions header. certifies_none functions header header.verifiers;
  operations = λ functions header. empty_lines functions header header.verifiers operations_told;
  texts = texts_of_none;
}
