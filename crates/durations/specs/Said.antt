-- What is said on standard error, for people: a refusal in words. Assumes nothing.
use Rattle.std.specs.Prelude.{Bool, true, cond, ◌&&◌, List, [], ◌++◌, ℕ, eqb, Result, Ok, Err}
use Rattle.slices.specs.declared.Refusal.{Refusal}
use Rattle.slices.specs.Texts.{bytes}
use Rattle.wording.specs.declared.Position.{Position}
use Rattle.wording.specs.Words.{File, line_place, is_scene_of, scene_position_of, show_words_of}
use Rattle.show_files.specs.Shown.{openings}
use Rattle.durations_files.specs.Decided.{cell_count, decided}

-- A scene of a show, where the sheet's text b has no seconds: it is of level three.
abbrev pub is_untimed_of : List ℕ → Refusal → Bool
is_untimed_of b r = is_scene_of r && eqb (cell_count b) 0

abbrev pub untimed_words : List ℕ → List ℕ → Position → List ℕ
untimed_words one two q =
    two ++ line_place q ++ bytes " refusal 9: this scene has no seconds, " ++ one ++ bytes " is a text of level three\n"

-- A refusal of the files one, a sheet's text, and two, a show's.
abbrev pub refused_words : File → File → Refusal → List ℕ
refused_words one two r =
    cond (is_untimed_of one.held r)
    (untimed_words one.name two.name (scene_position_of (openings two.held) r))
    (show_words_of (bytes "durations") one two (openings two.held) r)

-- Nothing where a running sheet is printed.
abbrev pub said_of : File → File → Result (List ℕ) Refusal → List ℕ
said_of one two (Ok x) = []
said_of one two (Err r) = refused_words one two r

-- Both files are text.
abbrev pub text_file : List ℕ → List ℕ → File
text_file name b = record { name = name; held = b; lined = true }

abbrev pub message_text : List ℕ → List ℕ → List ℕ → List ℕ → List ℕ
message_text one b two t = said_of (text_file one b) (text_file two t) (decided b t)
