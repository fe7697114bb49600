use Rattle.std.proofs.Common.{◌+◌, ◌-◌, ap, refl, ◌∙◌, arith}
use Rattle.std.specs.Int.{to_be_bytes, w64}
use Rattle.std.proofs.lemmas.Slice.{put_mid-paste}
use Rattle.definitions.specs.Layout.{bytes_of}
use Rattle.fields.proofs.BigEndian.{eight_bytes}
use Rattle.fields.proofs.put.put_eight.Goals as goal

pub returns : goal.returns
unfolding bytes_of
returns c =
    let a = c.args in
    record {
      is = put_mid-paste a.at (a.at + 8 - a.at) a.buf.now c.copy_from_slice.new.self (bytes_of 8 a.v) 8
          (c.copy_from_slice.ensures.after ∙ c.to_be_bytes.ensures ∙ ap (to_be_bytes w64) (omega arith) ∙ eight_bytes a.v) (omega arith) refl;
    }
