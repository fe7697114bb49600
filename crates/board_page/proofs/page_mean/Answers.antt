-- The page that the call left at the front, and where it ends.
use Rattle.std.proofs.Common.{◌≤◌, ◌≡◌, sym, ap, ◌∙◌, arith, length, replicate, length-take-le}
use Rattle.definitions.specs.Layout.{Bytes, last_year}
use Rattle.definitions.specs.Refusals.{year_limit}
use Rattle.definitions.specs.Matrix.{figures_from, figures_of}
use Rattle.definitions.specs.Page.{page_length}
use Rattle.definitions.specs.Strikes.{unstruck}
use Rattle.definitions.specs.Machine.{page_in}
use Rattle.definitions.specs.Programs.{paged}
use Rattle.laws.proofs.Accepted.{accepted_file}
use Rattle.laws.proofs.Pages.{file_page_fits}
use Rattle.laws.proofs.StruckFiles.{admitted}
use Rattle.settling.specs.Printed.{prints_front, prints_as}
use Rattle.settling.specs.Settles.{WritesWhole, writes_whole}
use Rattle.board_page.proofs.page_mean.Goals as goal
use Rattle.board_page.proofs.page_mean.Goals.{After-page}

-- the page is written whole
module _ (c : After-page) where
  abbrev bytes : Bytes
  bytes = c.args.given.now

  years : last_year bytes ≤ year_limit
  years = (accepted_file bytes c.requires.1.file).years.to

  abbrev text : Bytes
  text = page_in (figures_of bytes) c.requires.1.mean

  text_length : length text ≡ page_length (last_year bytes)
  unfolding figures_from
  text_length = (file_page_fits (unstruck bytes) (admitted bytes c.requires.1.file) c.requires.1.mean c.requires.1.inside).bytes

  page_whole : WritesWhole page_length page_in bytes c.requires.1.mean (replicate 4096 0) c.page.result c.page.new.buffer
  page_whole = writes_whole c.requires.1 c.page.ensures (omega (arith, years))

pub unwrap-requires : goal.unwrap-requires
unwrap-requires c = (page_whole (goal.at.unwrap-requires c).After-page).taken

pub page_length-end-requires : goal.page_length-end-requires
page_length-end-requires c = omega (arith, c.last_year-last.ensures, years (goal.at.page_length-end-requires c).After-page)

pub invariant_of-result : goal.invariant_of-result
invariant_of-result c =
    let short = years (goal.at.invariant_of-result c).After-page in
    let ends : c.page_length-end.result ≤ length c.page.new.buffer
    = omega (arith, c.page_length-end.ensures, c.last_year-last.ensures, c.page.auto.buffer, short) in
    record { inside = (ends, sym (length-take-le _ _ ends)) }

pub returns : goal.returns
returns c =
    let after_page = (goal.at.returns c).After-page in
    let ends = c.page_length-end.ensures ∙ ap page_length c.last_year-last.ensures ∙ sym (text_length after_page) in
    prints_as (prints_front (text after_page) _ (page_whole after_page).buffer ends) (c.requires.1.text paged)
