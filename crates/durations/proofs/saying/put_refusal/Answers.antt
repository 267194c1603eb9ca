-- `durations::saying::put_refusal` meets its contract. Assumes nothing.
use mathlib.Core.Path.{sym, ◌∙◌}
use lib.Dec.{eqb}
use Rattle.slices.proofs.Tests.{and_left}
use Rattle.wording.specs.Words.{is_scene_of}
use Rattle.durations_files.specs.Decided.{cell_count}
use Rattle.durations.specs.Said.{text_file}
use Rattle.durations.proofs.Spoken.{said-untimed, said-other}
use Rattle.durations.proofs.saying.put_refusal.Goals as goal

pub scene_position-q-requires : goal.scene_position-q-requires
scene_position-q-requires c =
    (c.count_openings-openings.ensures.1, and_left (is_scene_of c.args.r) (eqb (cell_count c.args.text.now) 0) (sym c.is_untimed.ensures ∙ c.if-is_untimed.true))

pub returns-then-is_untimed : goal.returns-then-is_untimed
returns-then-is_untimed c =
    said-untimed (text_file c.args.one.now c.args.text.now) (text_file c.args.two.now c.args.show.now) c.args.r c.count_openings-openings.ensures.0 (sym c.is_untimed.ensures ∙ c.if-is_untimed.true) c.scene_position-q.ensures c.put_untimed.ensures

pub returns : goal.returns
returns c =
    said-other (text_file c.args.one.now c.args.text.now) (text_file c.args.two.now c.args.show.now) c.args.r c.count_openings-openings.ensures.0 (sym c.is_untimed.ensures ∙ c.if-is_untimed.false) c.show_words.ensures
