use Rattle.std.proofs.Common.{◌≡◌, ℕ, length, get_or, sym, ap, ◌∙◌, Option, Some, None, arith, Bor}
use Rattle.std.specs.Option.{is_some, unwrap_or, option_map, option_copied}
use borrow.Author.Tests.{ltb-true, ltb-false}
use Rattle.std.proofs.Common.{ltb}
use Rattle.definitions.specs.Layout.{Bytes}
use Rattle.fields.specs.Fields.{byte_field_at, byte_value, byte_end}
use Rattle.fields.proofs.Bytes.{unsigned_one}
use Rattle.fields.proofs.unsigned_1.Goals as goal

module _ (at : ℕ) (s : Bytes) where
  found : (o : Option (Bor ℕ)) → is_some o ≡ ltb at (length s) → ((d : ℕ) → unwrap_or (option_map (λ x. x.now) o) d ≡ get_or s at d)
      → option_copied o ≡ byte_field_at at s
  found None there item = sym (byte_end at s (ltb-false at (length s) (sym there)))
  found (Some x) there item =
      let inside = ltb-true at (length s) (sym there) in
      ap Some (item 0 ∙ sym (unsigned_one at s inside)) ∙ sym (byte_value at s inside)

pub returns : goal.returns
returns c =
    let look = c.get.ensures.lookup in
    c.copied.ensures ∙ found c.args.at c.args.s.now c.get.result look.0 (look.4 (omega arith))
