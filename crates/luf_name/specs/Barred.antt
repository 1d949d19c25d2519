-- The names that no local variable is given.
use Rattle.std.specs.Prelude.{◌≡◌, ℕ, List, codes}

-- the keywords of Lua 5.4 (manual, 3.1), and two names that have a meaning of their own
pub data IsBarred (name : List ℕ) : Type 0 where
  word_and : name ≡ codes "and" → IsBarred name
  word_break : name ≡ codes "break" → IsBarred name
  word_do : name ≡ codes "do" → IsBarred name
  word_else : name ≡ codes "else" → IsBarred name
  word_elseif : name ≡ codes "elseif" → IsBarred name
  word_end : name ≡ codes "end" → IsBarred name
  word_false : name ≡ codes "false" → IsBarred name
  word_for : name ≡ codes "for" → IsBarred name
  word_function : name ≡ codes "function" → IsBarred name
  word_goto : name ≡ codes "goto" → IsBarred name
  word_if : name ≡ codes "if" → IsBarred name
  word_in : name ≡ codes "in" → IsBarred name
  word_local : name ≡ codes "local" → IsBarred name
  word_nil : name ≡ codes "nil" → IsBarred name
  word_not : name ≡ codes "not" → IsBarred name
  word_or : name ≡ codes "or" → IsBarred name
  word_repeat : name ≡ codes "repeat" → IsBarred name
  word_return : name ≡ codes "return" → IsBarred name
  word_then : name ≡ codes "then" → IsBarred name
  word_true : name ≡ codes "true" → IsBarred name
  word_until : name ≡ codes "until" → IsBarred name
  word_while : name ≡ codes "while" → IsBarred name
  name_self : name ≡ codes "self" → IsBarred name
  name_ENV : name ≡ codes "_ENV" → IsBarred name
