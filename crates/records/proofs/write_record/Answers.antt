-- `records::write_record` meets its contract: the header, and the parts behind it. Assumes nothing.
use mathlib.Core.Path.{ap, ◌∙◌}
use Rattle.definitions.specs.Layout.{parts}
use Rattle.records.specs.Records.{with_parts}
use Rattle.records.proofs.RecordSteps.{record_put}
use Rattle.records.proofs.write_record.Goals as goal

pub returns : goal.returns
returns c =
    let a = c.args in
    c.put_parts.ensures
    ∙ ap (λ b. with_parts b a.mean.now (parts a.last)) c.put_header.ensures
    ∙ record_put a.last a.buf.now a.mean.now
