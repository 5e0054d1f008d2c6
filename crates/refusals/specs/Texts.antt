-- The text that a reason and a refusal print.
use Rattle.std.specs.Prelude.{ℕ, List, ◌++◌, codes, decimal}
use Rattle.refusals.specs.Answers.{number_of}
use Rattle.refusals.specs.declared.Reason.{Reason}
use Rattle.refusals.specs.declared.Reason.TheVariants as ReasonV
use Rattle.refusals.specs.declared.Refusal.{Refusal}

-- RULES 3.2: the name of a reason
abbrev pub name_of : Reason → List ℕ
name_of ReasonV.Cut = codes "CUT"
name_of ReasonV.Form = codes "FORM"
name_of ReasonV.Head = codes "HEAD"
name_of ReasonV.Limit = codes "LIMIT"
name_of ReasonV.Text = codes "TEXT"
name_of ReasonV.Rule = codes "RULE"
name_of ReasonV.Tail = codes "TAIL"
name_of ReasonV.Base = codes "BASE"
name_of ReasonV.Result = codes "RESULT"
name_of ReasonV.Room = codes "ROOM"
name_of ReasonV.Coap = codes "COAP"
name_of ReasonV.Dest = codes "DEST"
name_of ReasonV.None = codes "NONE"

-- its number, its name and the place
abbrev pub refusal_text : Refusal → List ℕ
refusal_text r = codes "refused with " ++ decimal (number_of r.reason) ++ codes ", " ++ name_of r.reason ++ codes ", at byte " ++ decimal r.place
