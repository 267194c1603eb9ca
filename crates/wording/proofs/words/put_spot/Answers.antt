-- `wording::words::put_spot` meets its contract. Assumes nothing.
use mathlib.Core.Path.{sym}
use denote.Enum.Bare.{same_true, same_false}
use Rattle.slices.specs.contracts.Reason.{the_type}
use Rattle.wording.proofs.Worded.{spot-whole, spot-place}
use Rattle.wording.proofs.words.put_spot.Goals as goal

pub returns-then-eq : goal.returns-then-eq
returns-then-eq c =
    spot-whole (record { name = c.args.name.now; held = c.args.text.now; lined = c.args.lined }) c.args.r c.requires (same_true the_type tt _ _ (sym c.if-eq.ensures)) c.put_literal-named.ensures c.put_literal.ensures

pub returns : goal.returns
returns c =
    spot-place (record { name = c.args.name.now; held = c.args.text.now; lined = c.args.lined }) c.args.r c.requires (same_false the_type _ _ (sym c.if-eq.ensures)) c.put_literal-named.ensures c.put_place.ensures
