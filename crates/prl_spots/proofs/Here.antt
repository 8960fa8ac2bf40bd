-- What is told of what stands at a byte.
use Rattle.prl_base.proofs.Standard.{◌≡◌, ◌≢◌, ◌++◌, ℕ, List, [], ◌∷◌, Option, Some, None, Ok, Err, refl, sym, ◌∙◌, All, All-nil, append-nil}
use Rattle.prl_lex.specs.Lexing.{token_text, tokens_of}
use Rattle.prl_lex.specs.declared.tokens.Token.{Token}
use Rattle.prl_ast.specs.Trees.{ProgramTree}
use Rattle.prl_syntax.specs.Parsing.{IsParsed}
use Rattle.prl_syntax.specs.declared.parsing.ParseFault.{ParseFault}
use Rattle.prl_syntax.specs.declared.parsing.ParseFault.TheVariants as faults
use Rattle.prl_spots.specs.declared.unexpected.Trial.{Trial}
use Rattle.prl_spots.specs.Unexpected.{AreOfRefusal, IsReadOn, IsRefusedAt, IsTokenThere, IsUnexpected, IsWordTold, MayStand, stands_text, trials_text}

-- a token there
pub here_is : (text : List ℕ) (tokens : List Token) (at : ℕ) (token : Token) (told : List ℕ) → tokens_of text ≡ Ok tokens → IsTokenThere tokens at token
    → told ≡ stands_text (token_text text token) → IsWordTold text (Some at) told
here_is text tokens at token told lexed there is =
    (Some (token_text text token), record { tokens = tokens; lexed = lexed; token = token; there = there; spelt = refl }, is)

-- none
pub nothing_is : (text : List ℕ) (at : ℕ) (told : List ℕ) → told ≡ [] → IsWordTold text (Some at) told
nothing_is text at told is = (None, tt, is)

-- a program
pub read_whole : (text : List ℕ) (at : ℕ) (program : ProgramTree) → IsParsed text (Ok program) → IsReadOn text at
read_whole text at program parsed = record { outcome = Ok program; parsed = parsed; other = tt }

-- another fault
pub read_on : (text : List ℕ) (at : ℕ) (fault : ParseFault) → (fault ≢ faults.Memory → IsParsed text (Err fault)) → fault ≢ faults.Memory
    → fault ≢ faults.Unexpected at → IsReadOn text at
read_on text at fault parsed known other = record { outcome = Err fault; parsed = parsed known; other = other }

-- words are of a refusal there
pub of_refusal : (text : List ℕ) (at : ℕ) (trials : List Trial) → IsRefusedAt text at → AreOfRefusal text at trials
of_refusal text at [] refused = tt
of_refusal text at (trial ∷ trials) refused = refused

-- a word and then words that may stand there
pub with_trials : (text : List ℕ) (at : ℕ) (told all : List ℕ) (trials : List Trial) → IsRefusedAt text at → IsWordTold text (Some at) told
    → All (λ (t : Trial). MayStand text at t.word.now) trials → all ≡ told ++ trials_text trials → IsUnexpected text at all
with_trials text at told all trials refused here each is = record {
  here = here.0;
  is_here = here.1;
  trials = trials;
  refused = of_refusal text at trials refused;
  each = each;
  is = rw here.2 at is;
}

-- a word and no others
pub without_trials : (text : List ℕ) (at : ℕ) (told : List ℕ) → IsWordTold text (Some at) told → IsUnexpected text at told
without_trials text at told here = record {
  here = here.0;
  is_here = here.1;
  trials = [];
  refused = tt;
  each = All-nil _;
  is = here.2 ∙ sym (append-nil _);
}
