-- What a part of the reader tells of any bytes: what it reads of them, or the field that is wrong, with what stands before it and
-- how the part could go on there. Such parts join, one behind the other.
use Rattle.std.proofs.Common.{◌≡◌, ℕ, zero, suc, ◌<◌, ◌≤◌, List, [], ◌∷◌, ◌++◌, length, Result, Ok, refl, sym, ap, ◌∙◌, subst, append_assoc}
use Rattle.luf_undump.specs.Field.{InMany, Kind, Such, Then, a_size, some_bytes}
use Rattle.luf_undump.specs.Field as field
use Rattle.luf_undump.specs.FirstWrong.{AreBytes, AreGroups}
use Rattle.luf_undump.specs.Grammar.{IsCountOf}
use Rattle.luf_undump.specs.Reading.{◌>>=◌, Wrong, wrong, many_at, skip_at}
use Rattle.luf_undump.specs.declared.error.ChunkWhat.TheVariants.{Short, BadSize, BadTag, Nested}

-- a value and the bytes behind it, and the bytes behind what is skipped
abbrev pub pair : {A : Type 0} → A → List ℕ → A × List ℕ
pair x rest = (x, rest)

abbrev pub alone : Unit {0} → List ℕ → List ℕ
alone x rest = rest

pub bytes_join : (front back : List ℕ) → AreBytes front → AreBytes back → AreBytes (front ++ back)
bytes_join [] back are others = others
bytes_join (byte ∷ front) back are others = (are.0, bytes_join front back are.1 others)

module _ {A B : Type 0} (form : A → List ℕ → B) where
  -- these bytes are read as this, whatever stands behind them
  abbrev pub Takes : (List ℕ → Result B Wrong) → A → List ℕ → Type 0
  Takes r x front = (more : List ℕ) → r (front ++ more) ≡ Ok (form x more)

  -- some bytes behind these make them whole
  pub record Ends (r : List ℕ → Result B Wrong) (front : List ℕ) : Type 0 where
    pub value : A
    pub more : List ℕ
    pub are : AreBytes more
    pub ends : (rest : List ℕ) → r (front ++ (more ++ rest)) ≡ Ok (form value rest)

  -- the part has these fields, and beside the reader stands one that may go a level deeper
  pub data Told (In : List ℕ → Kind → Type 0) (r deeper : List ℕ → Result B Wrong) (bytes : List ℕ) : Type 0 where
    read : (x : A) (front rest : List ℕ) → bytes ≡ front ++ rest → Takes r x front → Takes deeper x front → Told In r deeper bytes
    tag : (byte : ℕ) (front rest : List ℕ) → bytes ≡ front ++ (byte ∷ rest) → In front (some_bytes 1) → Ends r (front ++ 0 ∷ [])
        → ((more : List ℕ) → r (front ++ (byte ∷ more)) ≡ wrong (byte ∷ more) BadTag) → Told In r deeper bytes
    size : (groups : List ℕ) (last : ℕ) (front rest : List ℕ) → bytes ≡ front ++ ((groups ++ last ∷ []) ++ rest) → In front a_size → AreGroups groups → 128 ≤ last → Ends r front
        → ((more : List ℕ) → r (front ++ ((groups ++ last ∷ []) ++ more)) ≡ wrong ((groups ++ last ∷ []) ++ more) BadSize) → Told In r deeper bytes
    cut : (front groups : List ℕ) → bytes ≡ front ++ groups → In front a_size → AreGroups groups → Ends r front → r (front ++ groups) ≡ wrong groups Short → Told In r deeper bytes
    short : (n : ℕ) (front rest : List ℕ) → bytes ≡ front ++ rest → In front (some_bytes n) → length rest < n → ((others : List ℕ) → length others ≤ length rest → Ends r (front ++ others))
        → ((others : List ℕ) → length others ≤ length rest → r (front ++ others) ≡ wrong others Short) → Told In r deeper bytes
    nested : (n : ℕ) (front count rest : List ℕ) → bytes ≡ front ++ (count ++ rest) → In front a_size → IsCountOf count (suc n) → Ends r front → Ends deeper (front ++ count)
        → ((more : List ℕ) → r (front ++ (count ++ more)) ≡ wrong more Nested) → Told In r deeper bytes

  pub record Tells (In : List ℕ → Kind → Type 0) (r deeper : List ℕ → Result B Wrong) : Type 0 where
    pub told : (bytes : List ℕ) → Told In r deeper bytes
    pub opens : Ends r []
    pub opens_deeper : Ends deeper []

-- ---- behind bytes that are read

module _ {A B : Type 0} {form : A → List ℕ → B} where
  pub ends_behind : {r s : List ℕ → Result B Wrong} (so_far front : List ℕ) → ((more : List ℕ) → r (so_far ++ more) ≡ s more) → Ends form s front → Ends form r (so_far ++ front)
  ends_behind {r} {s} so_far front same e = record {
    value = e.value;
    more = e.more;
    are = e.are;
    ends = λ rest. ap r (append_assoc so_far front (e.more ++ rest)) ∙ same (front ++ (e.more ++ rest)) ∙ e.ends rest;
  }

  -- a reader that is another behind some bytes tells what that one does
  pub behind : {In Below : List ℕ → Kind → Type 0} {r s deeper below : List ℕ → Result B Wrong} (so_far bytes rest : List ℕ) → bytes ≡ so_far ++ rest
      → ((more : List ℕ) → r (so_far ++ more) ≡ s more) → ((more : List ℕ) → deeper (so_far ++ more) ≡ below more)
      → ((front : List ℕ) (kind : Kind) → Below front kind → In (so_far ++ front) kind)
      → Told form Below s below rest → Told form In r deeper bytes
  behind {In} {Below} {r} {s} {deeper} {below} so_far bytes rest e same as_deep fields t = by_told t
    where
      whole : (front after : List ℕ) → rest ≡ front ++ after → bytes ≡ so_far ++ front ++ after
      whole front after is = e ∙ ap (λ b. so_far ++ b) is ∙ sym (append_assoc so_far front after)

      as_behind : (front more : List ℕ) (y : Result B Wrong) → s (front ++ more) ≡ y → r (so_far ++ front ++ more) ≡ y
      as_behind front more y is = ap r (append_assoc so_far front more) ∙ same (front ++ more) ∙ is

      ends_with : (front back : List ℕ) → Ends form s (front ++ back) → Ends form r (so_far ++ front ++ back)
      ends_with front back ends = subst (Ends form r) (sym (append_assoc so_far front back)) (ends_behind so_far (front ++ back) same ends)

      by_told : Told form Below s below rest → Told form In r deeper bytes
      by_told (read x front after is takes goes) =
          read x (so_far ++ front) after (whole front after is) (λ more. as_behind front more _ (takes more))
          (λ more. ap deeper (append_assoc so_far front more) ∙ as_deep (front ++ more) ∙ goes more)
      by_told (tag byte front after is next ends stops) =
          tag byte (so_far ++ front) after (whole front (byte ∷ after) is) (fields front (some_bytes 1) next) (ends_with front (0 ∷ []) ends) (λ more. as_behind front (byte ∷ more) _ (stops more))
      by_told (size groups last front after is next low mark ends stops) =
          size groups last (so_far ++ front) after (whole front ((groups ++ last ∷ []) ++ after) is) (fields front a_size next) low mark (ends_behind so_far front same ends)
          (λ more. as_behind front ((groups ++ last ∷ []) ++ more) _ (stops more))
      by_told (cut front groups is next low ends stops) =
          cut (so_far ++ front) groups (whole front groups is) (fields front a_size next) low (ends_behind so_far front same ends) (as_behind front groups _ stops)
      by_told (short n front after is next few ends stops) =
          short n (so_far ++ front) after (whole front after is) (fields front (some_bytes n) next) few (λ others le. ends_with front others (ends others le))
          (λ others le. as_behind front others _ (stops others le))
      by_told (nested n front count after is next counted ends deep stops) =
          nested n (so_far ++ front) count after (whole front (count ++ after) is) (fields front a_size next) counted (ends_behind so_far front same ends)
          (subst (Ends form deeper) (sym (append_assoc so_far front count)) (ends_behind so_far (front ++ count) as_deep deep)) (λ more. as_behind front (count ++ more) _ (stops more))

  -- readers that are the same everywhere tell the same, of fields that are among these
  pub tells_as : {In Below : List ℕ → Kind → Type 0} {r s deeper below : List ℕ → Result B Wrong} → ((bytes : List ℕ) → r bytes ≡ s bytes) → ((bytes : List ℕ) → deeper bytes ≡ below bytes)
      → ((front : List ℕ) (kind : Kind) → Below front kind → In front kind) → Tells form Below s below → Tells form In r deeper
  tells_as same as_deep fields t = record {
    told = λ bytes. behind [] bytes bytes refl same as_deep fields (t.told bytes);
    opens = ends_behind [] [] same t.opens;
    opens_deeper = ends_behind [] [] as_deep t.opens_deeper;
  }

-- ---- one part, and what stands behind it

-- where nothing stands behind it
only_first : {A : Type 0} (In : List ℕ → Kind → Type 0) (front : List ℕ) (kind : Kind) → Then {A = A} (λ bytes x. Unit {0}) In (λ x front kind. ⊥) front kind → In front kind
only_first In front kind (field.in_first same_front same_kind is) = is
only_first In front kind (field.in_second first back x same_kind is none) = absurd none

module _ {A B C D : Type 0} {form : A → List ℕ → B} {then_form : C → List ℕ → D} where
  pub ends_then : (r : List ℕ → Result B Wrong) (s : B → Result D Wrong) (front : List ℕ) → Ends form r front → ((x : A) → Ends then_form (λ bytes. s (form x bytes)) [])
      → Ends then_form (λ bytes. r bytes >>= s) front
  ends_then r s front e goes =
      let o = goes e.value in
      record {
        value = o.value;
        more = e.more ++ o.more;
        are = bytes_join e.more o.more e.are o.are;
        ends = λ rest. ap (λ b. r (front ++ b) >>= s) (append_assoc e.more o.more rest) ∙ ap (λ x. x >>= s) (e.ends (o.more ++ rest)) ∙ o.ends rest;
      }

  module _ {In : List ℕ → Kind → Type 0} {After : A → List ℕ → Kind → Type 0} (Is : List ℕ → A → Type 0) (r deeper : List ℕ → Result B Wrong) (s below : B → Result D Wrong)
      (written : (x : A) (front : List ℕ) → Takes form r x front → Is front x)
      (next : (x : A) → Tells then_form (After x) (λ b. s (form x b)) (λ b. below (form x b))) where
    told_then : (bytes : List ℕ) → Told form In r deeper bytes → Told then_form (Then Is In After) (λ b. r b >>= s) (λ b. deeper b >>= below) bytes
    told_then bytes (read x front rest whole takes goes) =
        behind front bytes rest whole (λ more. ap (λ y. y >>= s) (takes more)) (λ more. ap (λ y. y >>= below) (goes more))
        (λ back kind is. field.in_second front back x kind (written x front takes) is) ((next x).told rest)
    told_then bytes (tag byte front rest whole is ends stops) =
        tag byte front rest whole (field.in_first front (some_bytes 1) is) (ends_then r s (front ++ 0 ∷ []) ends (λ x. (next x).opens)) (λ more. ap (λ y. y >>= s) (stops more))
    told_then bytes (size groups last front rest whole is low mark ends stops) =
        size groups last front rest whole (field.in_first front a_size is) low mark (ends_then r s front ends (λ x. (next x).opens)) (λ more. ap (λ y. y >>= s) (stops more))
    told_then bytes (cut front groups whole is low ends stops) =
        cut front groups whole (field.in_first front a_size is) low (ends_then r s front ends (λ x. (next x).opens)) (ap (λ y. y >>= s) stops)
    told_then bytes (short n front rest whole is few ends stops) =
        short n front rest whole (field.in_first front (some_bytes n) is) few (λ others le. ends_then r s (front ++ others) (ends others le) (λ x. (next x).opens))
        (λ others le. ap (λ y. y >>= s) (stops others le))
    told_then bytes (nested n front count rest whole is counted ends into stops) =
        nested n front count rest whole (field.in_first front a_size is) counted (ends_then r s front ends (λ x. (next x).opens))
        (ends_then deeper below (front ++ count) into (λ x. (next x).opens_deeper)) (λ more. ap (λ y. y >>= s) (stops more))

    pub tells_then : Tells form In r deeper → Tells then_form (Then Is In After) (λ b. r b >>= s) (λ b. deeper b >>= below)
    tells_then t = record {
      told = λ bytes. told_then bytes (t.told bytes);
      opens = ends_then r s [] t.opens (λ x. (next x).opens);
      opens_deeper = ends_then deeper below [] t.opens_deeper (λ x. (next x).opens_deeper);
    }

  -- the last part, and what its value is turned into
  pub tells_last : {In : List ℕ → Kind → Type 0} (r deeper : List ℕ → Result B Wrong) (s : B → Result D Wrong) (g : A → C) → ((x : A) (rest : List ℕ) → s (form x rest) ≡ Ok (then_form (g x) rest))
      → Tells form In r deeper → Tells then_form In (λ b. r b >>= s) (λ b. deeper b >>= s)
  tells_last {In} r deeper s g turns t =
      tells_as (λ bytes. refl) (λ bytes. refl) (only_first {A = A} In)
      (tells_then {After = λ x front kind. ⊥} (λ bytes x. Unit {0}) r deeper s s (λ x front takes. tt) (λ x.
      let all : Ends then_form (λ b. s (form x b)) [] = record { value = g x; more = []; are = tt; ends = turns x } in
      record { told = λ bytes. read (g x) [] bytes refl (turns x) (turns x); opens = all; opens_deeper = all }) t)

-- ---- so many of one kind

-- there is nothing more
pub nothing : {C D : Type 0} {then_form : C → List ℕ → D} {In : List ℕ → Kind → Type 0} (y : C) → Tells then_form In (λ b. Ok (then_form y b)) (λ b. Ok (then_form y b))
nothing {then_form = then_form} y =
    let all : Ends then_form (λ b. Ok (then_form y b)) [] = record { value = y; more = []; are = tt; ends = λ rest. refl } in
    record { told = λ bytes. read y [] bytes refl (λ more. refl) (λ more. refl); opens = all; opens_deeper = all }

pub tells_many : {A : Type 0} {In : List ℕ → Kind → Type 0} (Is : List ℕ → A → Type 0) (item deeper : List ℕ → Result (A × List ℕ) Wrong)
    → ((x : A) (front : List ℕ) → Takes pair item x front → Is front x) → Tells pair In item deeper → (n : ℕ) → Tells pair (InMany Is In n) (many_at item n) (many_at deeper n)
unfolding many_at
tells_many Is item deeper written t zero = nothing {then_form = pair} []
tells_many Is item deeper written t (suc n) =
    tells_then {form = pair} {then_form = pair} Is item deeper _ _ written (λ x.
    tells_last {form = pair} {then_form = pair} (many_at item n) (many_at deeper n) _ (λ xs. x ∷ xs) (λ xs rest. refl) (tells_many Is item deeper written t n)) t

pub ends_many : {A : Type 0} (item : List ℕ → Result (A × List ℕ) Wrong) → Ends pair item [] → (n : ℕ) → Ends pair (many_at item n) []
unfolding many_at
ends_many item e zero = record { value = []; more = []; are = tt; ends = λ rest. refl }
ends_many item e (suc n) =
    ends_then {form = pair} {then_form = pair} item _ [] e (λ x.
    ends_then {form = pair} {then_form = pair} (many_at item n) _ [] (ends_many item e n) (λ xs. record { value = x ∷ xs; more = []; are = tt; ends = λ rest. refl }))

pub tells_skip : {In : List ℕ → Kind → Type 0} (Is : List ℕ → Type 0) (item : List ℕ → Result (List ℕ) Wrong) → ((x : Unit {0}) (front : List ℕ) → Takes alone item x front → Is front)
    → Tells alone In item item → (n : ℕ) → Tells alone (InMany (Such Is) In n) (skip_at item n) (skip_at item n)
unfolding skip_at
tells_skip Is item written t zero = nothing {then_form = alone} tt
tells_skip Is item written t (suc n) = tells_then {form = alone} {then_form = alone} (Such Is) item item _ _ written (λ x. tells_skip Is item written t n) t
