-- `verdict::answering::put_message` meets its contract. Assumes nothing.
use mathlib.Core.Path.{ap, ◌∙◌}
use Rattle.sheet_forms.specs.Forms.{is_text_of}
use Rattle.verdict.specs.Said.{sheet_file, show_file}
use Rattle.verdict.proofs.Spoken.{said-given, said-refused}
use Rattle.verdict.proofs.answering.put_message.Goals as goal

pub returns-in-Ok : goal.returns-in-Ok
returns-in-Ok c =
    said-given c.args.explain c.args.answer (sheet_file c.args.any c.args.one.now c.args.sheet.now) (show_file c.args.two.now c.args.show.now) c.in-Ok.is c.put_judged.ensures

pub returns-in-Err : goal.returns-in-Err
returns-in-Err c =
    said-refused c.args.explain c.args.answer (sheet_file c.args.any c.args.one.now c.args.sheet.now) (show_file c.args.two.now c.args.show.now) c.in-Err.is (c.is_text-lined.ensures ∙ ap is_text_of c.form_in.ensures) c.count_openings-openings.ensures.0 c.show_words.ensures
