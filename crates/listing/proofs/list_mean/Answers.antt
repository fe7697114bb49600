-- The lines of the mean, one behind the other, are those of the record that `read` left.
use Rattle.std.proofs.Common.{◌∙◌, arith, ◌≤◌, replicate}
use Rattle.definitions.specs.Words.{tab_from}
use Rattle.definitions.specs.Layout.{Bytes, last_year, record_length}
use Rattle.definitions.specs.Refusals.{year_limit}
use Rattle.definitions.specs.Text.{ascii}
use Rattle.definitions.specs.Machine.{record_in}
use Rattle.definitions.specs.Programs.{count_line}
use Rattle.laws.proofs.Accepted.{accepted_file}
use Rattle.laws.proofs.Printed.{listing_most}
use Rattle.text.specs.Added.{Added, both, in_words}
use Rattle.settling.specs.Printed.{prints}
use Rattle.settling.specs.Settles.{WritesWhole, writes_whole}
use Rattle.listing.specs.Listing.{listing_put}
use Rattle.listing.proofs.list_mean.Goals as goal
use Rattle.listing.proofs.list_mean.Goals.{After-read}

-- the record is written whole
module _ (c : After-read) where
  abbrev bytes : Bytes
  bytes = c.args.given.now

  years : last_year bytes ≤ year_limit
  years = (accepted_file bytes c.requires.file).years.to

  read_whole : WritesWhole record_length record_in bytes c.requires.mean (replicate 129 0) c.read.result c.read.new.buffer
  read_whole = writes_whole c.requires c.read.ensures (omega (arith, years))

pub unwrap-requires : goal.unwrap-requires
unwrap-requires c = (read_whole (goal.at.unwrap-requires c).After-read).taken

pub put_parts-end-requires : goal.put_parts-end-requires
put_parts-end-requires c =
    record {
      on = c.put_count-counted.ensures.counted.0;
      years =
          omega (arith, c.last_year-last.ensures, years (goal.at.put_parts-end-requires c).After-read);
    }

pub returns : goal.returns
unfolding ascii tab_from
returns c =
    let after_read = (goal.at.returns c).After-read in
    let headed = c.put_count-headed in
    let counted = c.put_count-counted in
    let first : Added _ 0 (count_line (ascii "J ") c.last_year-last.result) _ _ = headed.ensures in
    let kept₁ = headed.auto.page in
    let kept₂ = counted.auto.page ∙ kept₁ in
    prints
    (in_words (listing_put c.requires _ c.last_year-last.ensures (read_whole after_read).buffer)
    (both (both first kept₁ counted.ensures) kept₂ c.put_parts-end.ensures))
    (listing_most (bytes after_read))
