-- The parts of a page.
use Rattle.std.specs.Prelude.{◌++◌, ℕ, List, codes, vec_items}
use Rattle.std.specs.List.{flat_map}
use Rattle.prl_page.specs.Html.{escaped}
use Rattle.prl_page.specs.declared.html.TheConstants.{BODY, FOOT, HEAD}
use Rattle.prl_page.specs.declared.parts.Body.{Body}
use Rattle.prl_page.specs.declared.parts.Body.TheVariants as bodies
use Rattle.prl_page.specs.declared.parts.Part.{Part}

-- a picture stands as it is, and a text as HTML shows it
abbrev pub body_text : Body → List ℕ
body_text (bodies.Picture svg) = codes "<figure>\n" ++ vec_items svg ++ codes "</figure>\n"
body_text (bodies.Text text) = codes "<pre>" ++ escaped (vec_items text) ++ codes "</pre>\n"

-- what a part says of it: its heading, what it is, and the words of the program that writes it
abbrev pub about_text : Part → List ℕ
about_text part =
    (codes "<h2>" ++ part.heading.now ++ codes "</h2>\n") ++ (codes "<p>" ++ part.says.now ++ codes " ")
    ++ codes "<code>" ++ escaped (vec_items part.words) ++ codes "</code></p>\n"

abbrev pub part_text : Part → List ℕ
part_text part = about_text part ++ body_text part.body

-- what stands above the parts: the title, twice
abbrev pub head_text : List ℕ → List ℕ
head_text title = (HEAD.now ++ escaped title ++ BODY.now) ++ codes "<h1>" ++ escaped title ++ codes "</h1>\n"

-- the page of this title
abbrev pub page_text : List ℕ → List Part → List ℕ
page_text title parts = head_text title ++ flat_map part_text parts ++ FOOT.now
