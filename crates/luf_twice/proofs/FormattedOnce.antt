-- The formatted text of a source is the formatted text of itself.
use Rattle.std.proofs.Common.{ℕ, List}
use Rattle.luf_conf.specs.declared.settings.Options.{Options}
use Rattle.luf_style.specs.Styled.{IsFormatted, choices_of}
use Rattle.luf_twice.proofs.ChosenAgain.{chosen_again}
use Rattle.luf_twice.proofs.FormattedAgain.{formatted_again}
use Rattle.luf_twice.proofs.LexedAgain.{formatted_lexed, formatted_has}

pub formatted_once : (o : Options) (source text : List ℕ) → IsFormatted (choices_of o) source text → IsFormatted (choices_of o) text text
formatted_once o source text f =
    let is = formatted_lexed o source text f in
    let has = formatted_has o source text f in
    formatted_again o source text f is.head is.body is.is_head is.lexed is.cut is.hash has (chosen_again o source text f has)
