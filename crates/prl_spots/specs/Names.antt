-- Where a name stands in a program.
use Rattle.std.specs.Prelude.{◌==◌, ◌&&◌, ◌||◌, ℕ, Bool, false, not, List, [], ◌∷◌, Option, Some, None, length, nat_lt, Result, Ok, Err, codes, if◌then◌else◌}
use Rattle.std.specs.List.{after_first, before_first, find, position_or_len}
use Rattle.std.specs.Option.{option_map}
use Rattle.std.specs.Str.{byte, bytes_eq}
use Rattle.prl_lex.specs.declared.tokens.LexFault.{LexFault}
use Rattle.prl_lex.specs.declared.tokens.Token.{Token}
use Rattle.prl_lex.specs.Lexing.{token_text, tokens_of}
use Rattle.prl_spots.specs.declared.names.Asked.{Asked}
use Rattle.prl_spots.specs.declared.names.Asked.TheVariants as words

-- which of the places where a name stands is asked for: the first that lies in a node, or else in the whole text; its
-- declaration as a node, a sensor or an actuator; or the first of main or of a node
pub data Question : Type 0 where
  Used : List ℕ → Question
  Declared : List ℕ → Question
  InMain : List ℕ → Question
  InNode : List ℕ → List ℕ → Question

abbrev pub shown : Asked → Question
shown (words.Used name) = Used name.now
shown (words.Declared name) = Declared name.now
shown (words.InMain name) = InMain name.now
shown (words.InNode node name) = InNode node.now name.now

abbrev pub is_text : List ℕ → Token → List ℕ → Bool
is_text text token word = bytes_eq (token_text text token) word

-- where the first of the tokens begins that is this name
abbrev pub first_named : List ℕ → List Token → List ℕ → Option ℕ
first_named text tokens name = option_map (λ token. token.span.at) (find (λ token. is_text text token name) tokens)

-- the next token lies in a node: what is not imported, up to its `tel`
abbrev pub is_inside : List ℕ → Bool → Bool → Token → Bool
is_inside text inside imported token =
    if inside then not (is_text text token (codes "tel")) else not imported && is_text text token (codes "node")

-- where the first of the tokens begins that is this name and lies in a node
abbrev pub first_used : List ℕ → List ℕ → Bool → Bool → List Token → Option ℕ
first_used text name inside imported [] = None
first_used text name inside imported (token ∷ rest) =
    if inside && is_text text token name then Some token.span.at
    else first_used text name (is_inside text inside imported token) (is_text text token (codes "imported")) rest

abbrev pub or_first : List ℕ → List Token → List ℕ → Option ℕ → Option ℕ
or_first text tokens name (Some at) = Some at
or_first text tokens name None = first_named text tokens name

-- where the first of the tokens begins that is this name, of those in a node where there is one
abbrev pub used_or_first : List ℕ → List Token → List ℕ → Option ℕ
used_or_first text tokens name = or_first text tokens name (first_used text name false false tokens)

-- the tokens from the last `node` on that no `imported` stands before, of those that are left; else the best so far
abbrev pub main_of : List ℕ → List Token → Bool → List Token → List Token
main_of text best imported [] = best
main_of text best imported (token ∷ rest) =
    main_of text (if not imported && is_text text token (codes "node") then token ∷ rest else best)
    (is_text text token (codes "imported")) rest

-- a name that is declared stands after such a token
abbrev pub is_declaring : List ℕ → Token → Bool
is_declaring text token =
    is_text text token (codes "node") || is_text text token (codes "sensor") || is_text text token (codes "actuator")

-- the tokens from the declaration of this name on
abbrev pub declared_from : List ℕ → List ℕ → Bool → List Token → List Token
declared_from text name declares [] = []
declared_from text name declares (token ∷ rest) =
    if declares && is_text text token name then token ∷ rest else declared_from text name (is_declaring text token) rest

-- the place that is asked for, among tokens of a text
abbrev pub named_in : List ℕ → List Token → Question → Option ℕ
named_in text tokens (Used name) = used_or_first text tokens name
named_in text tokens (InMain name) = first_named text (main_of text tokens false tokens) name
named_in text tokens (Declared name) = first_named text (declared_from text name false tokens) name
named_in text tokens (InNode node name) = first_named text (declared_from text node false tokens) name

abbrev pub of_tokens : List ℕ → Question → Result (List Token) LexFault → Option ℕ
of_tokens text question (Ok tokens) = named_in text tokens question
of_tokens text question (Err fault) = None

-- the place that is asked for in a program; none where that has no tokens
abbrev pub named_at : List ℕ → Question → Option ℕ
named_at text question = of_tokens text question (tokens_of text)

abbrev pub is_byte : ℕ → ℕ → Bool
is_byte wanted b = b == wanted

-- which place the label of a flow asks for
abbrev pub flow_asked : List ℕ → Question
flow_asked label =
    if nat_lt (position_or_len (is_byte (byte "#")) label) (length label) then
    InNode (before_first (is_byte (byte "#")) label) (after_first (is_byte (byte ".")) label)
    else InMain label
