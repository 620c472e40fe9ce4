use Rattle.std.proofs.Common.{◌≡◌, sym, ap, ◌∙◌}
use Rattle.flood.specs.Sent.{sends_code}
use Rattle.amounts.specs.Row.{four_bytes, eight_bytes, row_bytes}
use Rattle.amounts.proofs.RowBytes.{eight_bytes_are}
use Rattle.amounts.proofs.rows.Row.to_bytes.Goals as goal

pub returns : goal.returns
unfolding row_bytes
returns c =
    let level : c.copy_from_slice.new.self ≡ four_bytes c.args.self.level.0 = c.copy_from_slice.ensures.after ∙ c.to_le_bytes.ensures in
    let sends : c.copy_from_slice-2.new.self ≡ four_bytes (sends_code c.args.self.sends) =
    c.copy_from_slice-2.ensures.after ∙ (c.to_le_bytes-2.ensures ∙ ap four_bytes c.from.ensures) in
    let place : c.copy_from_slice-3.new.self ≡ four_bytes c.args.self.place = c.copy_from_slice-3.ensures.after ∙ c.to_le_bytes-3.ensures in
    let amount : c.copy_from_slice-4.new.self ≡ eight_bytes c.args.self.amount.0 =
    c.copy_from_slice-4.ensures.after ∙ (c.to_le_bytes-4.ensures ∙ sym (eight_bytes_are c.args.self.amount.0)) in
    simp (level, sends, place, amount)
