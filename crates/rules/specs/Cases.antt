-- RULES 11: the table of small cases, and the other worked examples.
use Rattle.std.specs.Prelude.{ℕ, zero, suc, ◌+◌, ◌≡◌, Bool, true, false, List, [], ◌∷◌, ◌++◌, map, replicate}
use Prim.Native.String.{String}
use Rattle.std.proofs.Math.Option.{Option, none, some}
use Rattle.rules.specs.Bytes.{Bytes, ascii, hex, concat}
use Rattle.rules.specs.Result.{Res, refused, ok, ◌>>=◌}
use Rattle.rules.specs.Model.{Span, limits}
use Rattle.rules.specs.Head.{Array, head_bytes}
use Rattle.rules.specs.Rules.{label_byte}
use Rattle.rules.specs.Reader.{Found, read}
use Rattle.rules.specs.Meaning.{span}
use Rattle.rules.specs.Text.{Class, Label, Segment, Parameter, Fragment, escape}
use Rattle.rules.specs.Address.{ipv6_text}
use Rattle.rules.specs.ReadAddress.{read_address}
use Rattle.rules.specs.Options.{CoapOption, option, read_options}
use Rattle.rules.specs.Amended.{earlier_byte}
use Rattle.rules.specs.Calls.{resolve_call, text_call, options_call}
use Rattle.rules.specs.Views.{segment_view, Piece, of_reference, of_base, authority_view, segment_shown, piece_shown, verdict}

-- ---- rows

-- a reference, and what it gives against a base: the call's answer, and the URI text of what it wrote
pub record Row : Type 0 where
  pub input : Bytes
  pub result : Res Bytes
  pub text : Res Bytes

-- a row that is refused with n at k
abbrev pub refuses : String → ℕ → ℕ → Row
refuses s n k = record { input = hex s; result = refused n k; text = refused n k }

-- a row that gives the bytes w, whose URI text is t
abbrev pub gives : String → Bytes → String → Row
gives s w t = record { input = hex s; result = ok w; text = ok (ascii t) }

-- what the calls answer for a row's reference
abbrev pub answered : Bytes → Row → Row
answered base r =
    let w : Res Bytes = resolve_call limits base r.input in
    record { input = r.input; result = w; text = w >>= text_call limits }

-- every row is what the calls answer
abbrev pub AllHold : Bytes → List Row → Type 0
AllHold base rows = map (answered base) rows ≡ rows

-- ---- 11.1: the table, against B

-- coap, 198.51.100.1, 61616
abbrev pub origin : Bytes
origin = hex "20 82 44 C6 33 64 01 19 F0 B0"

-- .well-known
abbrev pub known : Bytes
known = hex "6B 2E 77 65 6C 6C 2D 6B 6E 6F 77 6E"

-- core
abbrev pub core : Bytes
core = hex "64 63 6F 72 65"

-- the base of the table
abbrev pub B : Bytes
B = hex "83" ++ origin ++ hex "82" ++ known ++ core

-- the rows marked *
unfoldable pub starred : List Row
starred =
    refuses "" 1 0
    ∷ gives "80" B "coap://198.51.100.1:61616/.well-known/core"
    ∷ refuses "81 00" 2 1
    ∷ gives "82 00 80" B "coap://198.51.100.1:61616/.well-known/core"
    ∷ gives "82 00 81 61 61" (hex "83" ++ origin ++ hex "83" ++ known ++ core ++ hex "61 61") "coap://198.51.100.1:61616/.well-known/core/a"
    ∷ gives "82 01 81 61 61" (hex "83" ++ origin ++ hex "82" ++ known ++ hex "61 61") "coap://198.51.100.1:61616/.well-known/a"
    ∷ gives "81 18 7F" (hex "82" ++ origin) "coap://198.51.100.1:61616/"
    ∷ refuses "81 18 80" 4 1
    ∷ refuses "81 18 17" 3 1
    ∷ gives "82 02 81 60" (hex "82" ++ origin) "coap://198.51.100.1:61616/"
    ∷ gives "83 00 F6 81 60" (hex "84" ++ origin ++ hex "82" ++ known ++ core ++ hex "81 60") "coap://198.51.100.1:61616/.well-known/core?"
    ∷ refuses "82 F5 81 62 2E 2E" 6 3
    ∷ []

-- the other rows
unfoldable pub unstarred : List Row
unstarred =
    refuses "82 00 81 61 C3" 5 3
    ∷ gives "82 01 81 60" (hex "83" ++ origin ++ hex "82" ++ known ++ hex "60") "coap://198.51.100.1:61616/.well-known/"
    ∷ refuses "82 20 84 61 31 61 32 61 33 61 34" 6 2
    ∷ refuses "82 20 81 61 41" 6 3
    ∷ refuses "82 64 63 6F 61 70 81 61 61" 6 1
    ∷ refuses "82 00 F6" 2 2
    ∷ refuses "80 00" 7 1
    ∷ []

-- ---- 11.4: two slips, against a base with the path "p", the query "q" and the fragment "f"

-- coap://h/p?q#f
abbrev pub long_base : Bytes
long_base = hex "85 20 81 61 68 81 61 70 81 61 71 61 66"

-- each row with the slip that it shows
unfoldable pub slips : List Row
slips =
    -- resolving 80 to a base that still has its fragment
    gives "80" (hex "84 20 81 61 68 81 61 70 81 61 71") "coap://h/p?q"
    -- treating an empty path array as unset: the old query survives
    ∷ gives "82 00 80" (hex "83 20 81 61 68 81 61 70") "coap://h/p"
    ∷ []

-- what each item of a reference brings, against the same base
unfoldable pub steps : List Row
steps =
    -- a fragment; a query; a segment more; a segment in place of one
    gives "84 00 F6 F6 61 67" (hex "85 20 81 61 68 81 61 70 81 61 71 61 67") "coap://h/p?q#g"
    ∷ gives "83 00 F6 81 61 72" (hex "84 20 81 61 68 81 61 70 81 61 72") "coap://h/p?r"
    ∷ gives "82 00 81 61 73" (hex "83 20 81 61 68 82 61 70 61 73") "coap://h/p/s"
    ∷ gives "82 01 81 61 73" (hex "83 20 81 61 68 81 61 73") "coap://h/s"
    -- one discarded, and the query with it; all; an authority; a scheme and an authority
    ∷ gives "81 01" (hex "82 20 81 61 68") "coap://h/"
    ∷ gives "81 F5" (hex "82 20 81 61 68") "coap://h/"
    ∷ gives "82 F6 81 61 67" (hex "82 20 81 61 67") "coap://g/"
    ∷ gives "82 21 81 61 67" (hex "82 21 81 61 67") "coaps://g/"
    ∷ []

-- ---- 11.5: refusals of the reader, with their places

-- an input, and the number and place that it is refused with
pub record Refusal : Type 0 where
  pub input : Bytes
  pub number : ℕ
  pub place : ℕ

-- the reader's answer as such a row; 0 at 0 where it accepts
abbrev pub refused_as : Bytes → Res Found → Refusal
refused_as bs (refused n k) = record { input = bs; number = n; place = k }
refused_as bs (ok f) = record { input = bs; number = 0; place = 0 }

-- what the reader answers
abbrev pub answered_refusal : Refusal → Refusal
answered_refusal r = refused_as r.input (read limits r.input)

-- the input is refused with n at k
abbrev pub refused_at : String → ℕ → ℕ → Refusal
refused_at s n k = record { input = hex s; number = n; place = k }

-- n texts "a", one after the other
abbrev pub row : ℕ → Bytes
row n = concat (replicate n (hex "61 61"))

-- a text of n bytes "a", for n from 24 to 255
abbrev pub long : ℕ → Bytes
long n = hex "78" ++ (n ∷ replicate n 0x61)

-- in the order of RULES 4
unfoldable pub refusals : List Refusal
refusals =
    -- a missing item is cut at the input's length; a kind, then a long head; the outer count at the range step
    refused_at "81" 1 1
    ∷ refused_at "85 F4" 2 1
    ∷ refused_at "81 F7" 2 1
    ∷ refused_at "81 C0" 2 1
    ∷ refused_at "A0" 2 0
    ∷ refused_at "81 1C" 3 1
    ∷ refused_at "82 18 17" 3 1
    ∷ refused_at "98" 1 0
    ∷ refused_at "98 06" 3 0
    ∷ refused_at "98 18" 2 0
    ∷ refused_at "86" 2 0
    -- of one text: length, content cut, UTF-8, rule
    ∷ refused_at "82 71" 4 1
    ∷ refused_at "82 62 FF" 1 1
    ∷ refused_at "82 62 41 FF" 5 1
    ∷ refused_at "82 62 41 41" 6 1
    -- the opening's own checks before the number of items
    ∷ refused_at "81 22" 6 1
    ∷ refused_at "81 25" 6 1
    ∷ refused_at "81 2A" 6 1
    ∷ refused_at "81 3A FF FF FF FF" 6 1
    ∷ refused_at "81 3B 00 00 00 01 00 00 00 00" 6 1
    ∷ refused_at "81 64 63 6F 61 70" 6 1
    ∷ refused_at "85 18 80" 4 1
    ∷ refused_at "81 18 00" 3 1
    ∷ refused_at "85 00" 2 1
    ∷ refused_at "85 F5" 2 1
    ∷ refused_at "81 20" 2 1
    ∷ refused_at "81 00" 2 1
    -- a final null; an empty query
    ∷ refused_at "82 00 F6" 2 2
    ∷ refused_at "83 00 F6 80" 4 3
    -- authorities: a number first, an item after the port, no item, a ninth label, the IPv4 look
    ∷ refused_at "82 20 81 05" 2 3
    ∷ refused_at "82 20 83 61 61 00 61" 2 6
    ∷ refused_at "82 20 83 61 61 00" 1 6
    ∷ refused_at "82 20 83 61 61 00 1C" 2 6
    ∷ refused_at "82 20 83 61 61 00 18" 2 6
    ∷ refused_at "82 20 83 61 61 00 18 17" 2 6
    ∷ refused_at "82 20 80" 4 2
    ∷ refused_at "82 20 89 61 61 61 61 61 61 61 61 61 61 61 61 61 61 61 61 61" 4 19
    ∷ refused_at "82 20 89 61 61 61 61 61 61 61 61 61 61 61 61 61 61 61 61 7F" 3 19
    ∷ refused_at "82 20 84 61 31 61 32 61 33 61 34" 6 2
    ∷ refused_at "82 20 84 61 30 62 39 39 63 31 30 30 63 32 35 35" 6 2
    ∷ refused_at "82 20 85 61 31 61 32 61 33 61 34 1A 00 01 00 00" 4 11
    -- sizes: an address, a port, an authority; a label, labels with their dots; a segment, parameters, a fragment
    ∷ refused_at "82 20 81 43 00 00 00" 4 3
    ∷ refused_at "82 20 82 61 61 1A 00 01 00 00" 4 5
    ∷ refused_at "82 20 8A" 4 2
    ∷ refused_at "82 20 81 60" 4 3
    ∷ refused_at "82 20 81 78 40" 4 3
    ∷ record { input = hex "82 20 85" ++ long 63 ++ long 63 ++ long 63 ++ long 62 ++ row 1; number = 6; place = 2 }
    ∷ refused_at "82 00 81 79 01 00" 4 3
    ∷ refused_at "83 00 F6 91" 4 3
    ∷ refused_at "83 00 F6 81 79 01 00" 4 4
    ∷ refused_at "84 00 F6 F6 79 01 00" 4 4
    -- a scheme that is empty, that begins with a digit, that has a byte beside its ranges
    ∷ refused_at "82 60" 4 1
    ∷ refused_at "82 61 31" 6 1
    ∷ refused_at "82 63 61 5F 62 81 61 61" 6 1
    ∷ refused_at "82 62 61 60" 6 1
    ∷ refused_at "82 62 61 7B" 6 1
    ∷ refused_at "82 62 61 2F" 6 1
    ∷ refused_at "82 62 61 3A" 6 1
    -- "Z", "." and "[" as a label, "[::1]", "]" after another label, after a bracket no UTF-8, after three octets; "." as a segment
    ∷ refused_at "82 20 81 61 5A" 6 3
    ∷ refused_at "82 20 81 61 2E" 6 3
    ∷ refused_at "82 20 81 61 5B" 6 3
    ∷ refused_at "82 20 81 65 5B 3A 3A 31 5D" 6 3
    ∷ refused_at "82 20 82 61 61 61 5D" 6 5
    ∷ refused_at "82 20 81 62 5B FF" 5 3
    ∷ refused_at "82 20 84 61 31 61 32 61 33 61 5D" 6 9
    ∷ refused_at "82 00 81 61 2E" 6 3
    -- UTF-8: an overlong form, a surrogate, a number over 10FFFF, a byte that leads nothing
    ∷ refused_at "82 00 81 63 E0 9F BF" 5 3
    ∷ refused_at "82 00 81 63 ED A0 80" 5 3
    ∷ refused_at "82 00 81 64 F0 8F BF BF" 5 3
    ∷ refused_at "82 00 81 64 F4 90 80 80" 5 3
    ∷ refused_at "82 00 81 62 C1 BF" 5 3
    ∷ refused_at "82 00 81 64 F5 80 80 80" 5 3
    -- bytes after the array
    ∷ refused_at "80 00" 7 1
    ∷ []

-- ---- 11.7: accepted inputs

-- the input is accepted
abbrev pub accepts : Bytes → Refusal
accepts bs = record { input = bs; number = 0; place = 0 }

-- at the sizes of RULES 2, and one step inside the rules of texts
unfoldable pub accepted : List Refusal
accepted =
    -- discards, a scheme text, a port, a label, labels with their dots, an authority of nine items
    accepts (hex "81 17")
    ∷ accepts (hex "81 18 18")
    ∷ accepts (hex "81 18 7F")
    ∷ accepts (hex "82 70 61" ++ replicate 15 0x2B ++ hex "81 61 61")
    ∷ accepts (hex "82 20 82 61 61 19 FF FF")
    ∷ accepts (hex "82 20 81" ++ long 63)
    ∷ accepts (hex "82 20 85" ++ long 63 ++ long 63 ++ long 63 ++ long 61 ++ row 1)
    ∷ accepts (hex "82 20 89" ++ row 8 ++ hex "00")
    -- a segment, parameters, a fragment, an empty one
    ∷ accepts (hex "82 00 81" ++ long 255)
    ∷ accepts (hex "83 00 F6 90" ++ row 16)
    ∷ accepts (hex "83 00 F6 81" ++ long 255)
    ∷ accepts (hex "84 00 F6 F6" ++ long 255)
    ∷ accepts (hex "84 00 F6 F6 60")
    -- four labels of which one is 256, has a leading zero, is no number; three and five labels
    ∷ accepts (hex "82 20 84 63 32 35 36 61 32 61 33 61 34")
    ∷ accepts (hex "82 20 84 61 31 62 30 31 61 33 61 34")
    ∷ accepts (hex "82 20 84 61 31 61 32 61 33 61 61")
    ∷ accepts (hex "82 20 83 61 31 61 32 61 33")
    ∷ accepts (hex "82 20 85 61 31 61 32 61 33 61 34 61 35")
    -- "@" as a label, and the bytes beside the brackets; brackets and "..." as segments; each byte of a scheme text; UTF-8 at the ends of its ranges
    ∷ accepts (hex "82 20 81 61 40")
    ∷ accepts (hex "82 20 82 61 5C 61 5E")
    ∷ accepts (hex "82 00 82 61 5B 61 5D")
    ∷ accepts (hex "82 00 81 63 2E 2E 2E")
    ∷ accepts (hex "82 68 61 7A 30 39 2B 2E 2D 6D 81 61 61")
    ∷ accepts (hex "82 00 82 62 C2 80 62 DF BF")
    ∷ accepts (hex "82 00 84 63 E0 A0 80 63 ED 9F BF 63 EE 80 80 63 EF BF BF")
    ∷ accepts (hex "82 00 82 64 F0 90 80 80 64 F4 8F BF BF")
    ∷ []

-- the sizes in force, RULES 2.1 and 2.2, whatever they are: an input that is too long, one that is not; a segment too many, and as many as may be
unfoldable pub sizes : List Refusal
sizes =
    record { input = replicate (limits.bytes + 1) 0; number = 4; place = limits.bytes }
    ∷ record { input = replicate limits.bytes 0; number = 2; place = 0 }
    ∷ record { input = hex "82 00" ++ head_bytes Array (limits.segments + 1); number = 4; place = 2 }
    ∷ accepts (hex "82 00" ++ head_bytes Array limits.segments ++ row limits.segments)
    ∷ []

-- ---- 11.8: texts

-- an input, and what the URI text call gives
pub record Text : Type 0 where
  pub input : Bytes
  pub result : Res Bytes

-- the input prints as this text
abbrev pub prints : String → String → Text
prints s t = record { input = hex s; result = ok (ascii t) }

-- what the call answers
abbrev pub answered_text : Text → Text
answered_text t = record { input = t.input; result = text_call limits t.input }

-- the name of each scheme; four labels that are no IPv4 address; every part; addresses; two that are not absolute; one that is refused
unfoldable pub texts : List Text
texts =
    prints "82 20 81 61 68" "coap://h/"
    ∷ prints "82 21 81 61 68" "coaps://h/"
    ∷ prints "82 26 81 61 68" "coap+tcp://h/"
    ∷ prints "82 27 81 61 68" "coaps+tcp://h/"
    ∷ prints "82 28 81 61 68" "coap+ws://h/"
    ∷ prints "82 29 81 61 68" "coaps+ws://h/"
    ∷ prints "82 20 84 63 32 35 36 61 32 61 33 61 34" "coap://256.2.3.4/"
    ∷ prints "82 20 84 61 31 62 30 31 61 33 61 34" "coap://1.01.3.4/"
    ∷ prints "85 62 61 2B 82 61 68 00 82 61 70 61 73 82 61 71 60 61 66" "a+://h:0/p/s?q&#f"
    ∷ prints "82 20 81 44 00 0A 64 FF" "coap://0.10.100.255/"
    ∷ prints "82 20 82 50 20 01 0D B8 00 00 00 00 00 01 00 00 00 00 00 01 18 50" "coap://[2001:db8::1:0:0:1]:80/"
    ∷ prints "82 20 82 50 00 00 00 00 00 00 00 00 00 00 FF FF C0 00 02 01 18 50" "coap://[::ffff:192.0.2.1]:80/"
    ∷ record { input = hex "80"; result = refused 8 0 }
    ∷ record { input = hex "82 F6 81 61 61"; result = refused 8 0 }
    ∷ record { input = hex "81 00"; result = refused 2 1 }
    ∷ []

-- ---- 11.9: escapes

-- every byte from n on, k of them
abbrev pub counting : ℕ → ℕ → Bytes
counting n zero = []
counting n (suc k) = n ∷ counting (suc n) k

-- where a byte stands, and the text of all 256 bytes there
pub record Escaped : Type 0 where
  pub class : Class
  pub text : Bytes

-- 00 to 1F
abbrev pub control : Bytes
control =
    ascii "%00%01%02%03%04%05%06%07%08%09%0A%0B%0C%0D%0E%0F%10%11%12%13%14%15%16%17%18%19%1A%1B%1C%1D%1E%1F"

-- 80 to FF
abbrev pub high : Bytes
high =
    ascii "%80%81%82%83%84%85%86%87%88%89%8A%8B%8C%8D%8E%8F%90%91%92%93%94%95%96%97%98%99%9A%9B%9C%9D%9E%9F"
    ++ ascii "%A0%A1%A2%A3%A4%A5%A6%A7%A8%A9%AA%AB%AC%AD%AE%AF%B0%B1%B2%B3%B4%B5%B6%B7%B8%B9%BA%BB%BC%BD%BE%BF"
    ++ ascii "%C0%C1%C2%C3%C4%C5%C6%C7%C8%C9%CA%CB%CC%CD%CE%CF%D0%D1%D2%D3%D4%D5%D6%D7%D8%D9%DA%DB%DC%DD%DE%DF"
    ++ ascii "%E0%E1%E2%E3%E4%E5%E6%E7%E8%E9%EA%EB%EC%ED%EE%EF%F0%F1%F2%F3%F4%F5%F6%F7%F8%F9%FA%FB%FC%FD%FE%FF"

-- 20 to 7F, between them
abbrev pub escapes : Class → String → Escaped
escapes k t = record { class = k; text = control ++ ascii t ++ high }

-- what is written
abbrev pub answered_escape : Escaped → Escaped
answered_escape e = record { class = e.class; text = escape e.class (counting 0 256) }

-- one text for each part of a URI
unfoldable pub escaped : List Escaped
escaped =
    escapes Label "%20!%22%23$%25&'()*+,-.%2F0123456789%3A;%3C=%3E%3F%40ABCDEFGHIJKLMNOPQRSTUVWXYZ%5B%5C%5D%5E_%60abcdefghijklmnopqrstuvwxyz%7B%7C%7D~%7F"
    ∷ escapes Segment "%20!%22%23$%25&'()*+,-.%2F0123456789:;%3C=%3E%3F@ABCDEFGHIJKLMNOPQRSTUVWXYZ%5B%5C%5D%5E_%60abcdefghijklmnopqrstuvwxyz%7B%7C%7D~%7F"
    ∷ escapes Parameter "%20!%22%23$%25%26'()*+,-./0123456789:;%3C=%3E?@ABCDEFGHIJKLMNOPQRSTUVWXYZ%5B%5C%5D%5E_%60abcdefghijklmnopqrstuvwxyz%7B%7C%7D~%7F"
    ∷ escapes Fragment "%20!%22%23$%25&'()*+,-./0123456789:;%3C=%3E?@ABCDEFGHIJKLMNOPQRSTUVWXYZ%5B%5C%5D%5E_%60abcdefghijklmnopqrstuvwxyz%7B%7C%7D~%7F"
    ∷ []

-- ---- 11.2: options

-- an input and a destination, and what the options call gives
pub record Request : Type 0 where
  pub input : Bytes
  pub address : Bytes
  pub port : ℕ
  pub result : Res Bytes

-- to 198.51.100.1
abbrev pub request : Bytes → ℕ → Bytes → Request
request bs port w = record { input = bs; address = hex "C6 33 64 01"; port = port; result = ok w }

-- to another address, and port 5683
abbrev pub request_to : String → String → Bytes → Request
request_to s a w = record { input = hex s; address = hex a; port = 5683; result = ok w }

-- to 198.51.100.1 and port 5683, refused with n at k
abbrev pub unrequested : String → ℕ → ℕ → Request
unrequested s n k = record { input = hex s; address = hex "C6 33 64 01"; port = 5683; result = refused n k }

-- what the call answers
abbrev pub answered_request : Request → Request
answered_request r = record { input = r.input; address = r.address; port = r.port; result = options_call limits r.input r.address r.port }

-- each with what is special about it
unfoldable pub requests : List Request
requests =
    request B 61616 (hex "BB" ++ ascii ".well-known" ++ hex "04" ++ ascii "core")
    ∷ request B 5683 (hex "72 F0 B0 4B" ++ ascii ".well-known" ++ hex "04" ++ ascii "core")
    -- one parameter "a" and nothing before it
    ∷ request (hex "84 20 81 44 C6 33 64 01 F6 81 61 61") 5683 (hex "D1 02 61")
    -- a lone empty segment has no option
    ∷ request (hex "83 20 81 44 C6 33 64 01 81 60") 5683 []
    -- another address, an IPv6 address, the destination's as IPv4-mapped, labels as they are, port 0, a segment as it is
    ∷ request (hex "82 20 81 44 C6 33 64 02") 5683 (hex "3C" ++ ascii "198.51.100.2")
    ∷ request (hex "82 20 81 50 00 00 00 00 00 00 00 00 00 00 00 00 00 00 00 01") 5683 (hex "35" ++ ascii "[::1]")
    ∷ request (hex "82 20 81 50 00 00 00 00 00 00 00 00 00 00 FF FF C6 33 64 01") 5683 (hex "3D 08" ++ ascii "[::ffff:198.51.100.1]")
    ∷ request (hex "82 20 82 61 68 62 C3 A9") 5683 (hex "34 68 2E C3 A9")
    ∷ request (hex "82 20 82 44 C6 33 64 01 00") 5683 (hex "70")
    ∷ request (hex "83 20 81 44 C6 33 64 01 81 61 2F") 5683 (hex "B1 2F")
    -- each scheme, to its default port and to the one after it
    ∷ request (hex "82 20 81 44 C6 33 64 01") 5683 []
    ∷ request (hex "82 20 81 44 C6 33 64 01") 5684 (hex "72 16 33")
    ∷ request (hex "82 21 81 44 C6 33 64 01") 5684 []
    ∷ request (hex "82 21 81 44 C6 33 64 01") 5685 (hex "72 16 34")
    ∷ request (hex "82 26 81 44 C6 33 64 01") 5683 []
    ∷ request (hex "82 26 81 44 C6 33 64 01") 5684 (hex "72 16 33")
    ∷ request (hex "82 27 81 44 C6 33 64 01") 5684 []
    ∷ request (hex "82 27 81 44 C6 33 64 01") 5685 (hex "72 16 34")
    ∷ request (hex "82 28 81 44 C6 33 64 01") 80 []
    ∷ request (hex "82 28 81 44 C6 33 64 01") 81 (hex "71 50")
    ∷ request (hex "82 29 81 44 C6 33 64 01") 443 []
    ∷ request (hex "82 29 81 44 C6 33 64 01") 444 (hex "72 01 BB")
    -- to an IPv4-mapped address: the same, the IPv4 address in it
    ∷ request_to "82 20 81 50 00 00 00 00 00 00 00 00 00 00 FF FF C0 00 02 01" "00 00 00 00 00 00 00 00 00 00 FF FF C0 00 02 01" []
    ∷ request_to "82 20 81 44 C0 00 02 01" "00 00 00 00 00 00 00 00 00 00 FF FF C0 00 02 01" (hex "39" ++ ascii "192.0.2.1")
    -- refusals: the address, before the input; the input; not absolute; a scheme that is a text; a fragment
    ∷ record { input = hex "81 00"; address = hex "C6 33 64"; port = 5683; result = refused 12 0 }
    ∷ unrequested "81 00" 2 1
    ∷ unrequested "80" 8 0
    ∷ unrequested "82 61 61 81 61 68" 11 0
    ∷ unrequested "85 20 81 61 68 F6 F6 61 66" 11 0
    ∷ []

-- ---- 11.3: IPv6 texts, and addresses read back

-- an address and its text
pub record Ipv6 : Type 0 where
  pub address : Bytes
  pub text : Bytes

-- the address and the text as they are written
abbrev pub ipv6 : String → String → Ipv6
ipv6 a t = record { address = hex a; text = ascii t }

-- what is printed
abbrev pub ipv6_printed : Ipv6 → Ipv6
ipv6_printed x = record { address = x.address; text = ipv6_text x.address }

-- RFC 5952, sections 4 and 5
unfoldable pub addresses : List Ipv6
addresses =
    ipv6 "20 01 0D B8 00 00 00 00 00 01 00 00 00 00 00 01" "2001:db8::1:0:0:1"
    -- all zero; runs at both ends; the longer run; one zero group is no run
    ∷ ipv6 "00 00 00 00 00 00 00 00 00 00 00 00 00 00 00 00" "::"
    ∷ ipv6 "00 00 00 00 00 00 00 00 00 00 00 00 00 00 00 01" "::1"
    ∷ ipv6 "00 01 00 00 00 00 00 00 00 00 00 00 00 00 00 00" "1::"
    ∷ ipv6 "00 01 00 00 00 00 00 02 00 00 00 00 00 00 00 03" "1:0:0:2::3"
    ∷ ipv6 "00 01 00 00 00 02 00 03 00 04 00 05 00 06 00 07" "1:0:2:3:4:5:6:7"
    -- IPv4-mapped
    ∷ ipv6 "00 00 00 00 00 00 00 00 00 00 FF FF C0 00 02 01" "::ffff:192.0.2.1"
    ∷ ipv6 "00 00 00 00 00 00 00 00 00 00 FF FF 00 00 00 00" "::ffff:0.0.0.0"
    ∷ ipv6 "00 00 00 00 00 00 00 00 00 00 FF FF 0A 64 00 FF" "::ffff:10.100.0.255"
    -- beside them: the next two bytes, one of the first ten, the group before
    ∷ ipv6 "00 00 00 00 00 00 00 00 00 00 FF FE C0 00 02 01" "::fffe:c000:201"
    ∷ ipv6 "00 00 00 00 00 00 00 00 00 00 FE FF C0 00 02 01" "::feff:c000:201"
    ∷ ipv6 "00 00 00 00 00 00 00 00 00 00 7F FF C0 00 02 01" "::7fff:c000:201"
    ∷ ipv6 "00 00 00 00 00 00 00 00 00 00 00 FF C0 00 02 01" "::ff:c000:201"
    ∷ ipv6 "00 00 00 00 00 00 00 00 00 00 00 00 C0 00 02 01" "::c000:201"
    ∷ ipv6 "00 00 00 00 00 00 00 00 00 01 FF FF C0 00 02 01" "::1:ffff:c000:201"
    ∷ ipv6 "80 00 00 00 00 00 00 00 00 00 FF FF C0 00 02 01" "8000::ffff:c000:201"
    ∷ ipv6 "00 00 00 00 00 00 00 00 FF FF 00 00 C0 00 02 01" "::ffff:0:c000:201"
    ∷ []

-- a text, and the address that it is read as
pub record Said : Type 0 where
  pub text : Bytes
  pub address : Option Bytes

-- the text is read as this address
abbrev pub says : String → String → Said
says t a = record { text = ascii t; address = some (hex a) }

-- the text is no address
abbrev pub says_none : String → Said
says_none t = record { text = ascii t; address = none }

-- what is read
abbrev pub answered_said : Said → Said
answered_said s = record { text = s.text; address = read_address s.text }

-- RULES 6.7
unfoldable pub said_addresses : List Said
said_addresses =
    says "198.51.100.1" "C6 33 64 01"
    ∷ says "[2001:db8::1:0:0:1]" "20 01 0D B8 00 00 00 00 00 01 00 00 00 00 00 01"
    ∷ says "[::]" "00 00 00 00 00 00 00 00 00 00 00 00 00 00 00 00"
    ∷ says "[::ffff:192.0.2.1]" "00 00 00 00 00 00 00 00 00 00 FF FF C0 00 02 01"
    ∷ says "[::ffff:0.0.0.0]" "00 00 00 00 00 00 00 00 00 00 FF FF 00 00 00 00"
    -- other forms of an IPv4-mapped address; the mixed form of others; decimals that are no bytes, or too few
    ∷ says_none "[::ffff:c000:201]"
    ∷ says_none "[::FFFF:192.0.2.1]"
    ∷ says_none "[0:0:0:0:0:ffff:192.0.2.1]"
    ∷ says_none "[::192.0.2.1]"
    ∷ says_none "[::fffe:192.0.2.1]"
    ∷ says_none "[::ffff:192.0.2.256]"
    ∷ says_none "[::ffff:192.0.2.01]"
    ∷ says_none "[::ffff:192.0.2]"
    -- brackets that are missing, or too many; other forms of hex groups; decimals that are no IPv4 address; no digits
    ∷ says_none "::1"
    ∷ says_none "[::1"
    ∷ says_none "[::1]]"
    ∷ says_none "[0::1]"
    ∷ says_none "[2001:DB8::1]"
    ∷ says_none "1.2.3"
    ∷ says_none "1.2.3.04"
    ∷ says_none "1.2.3.256"
    ∷ says_none "a"
    ∷ says_none ""
    ∷ []

-- ---- 11.6: option bytes, read back

-- option bytes, and the options that they code; none is a fault
pub record Coding : Type 0 where
  pub input : Bytes
  pub options : Option (List CoapOption)

-- the bytes code these options
abbrev pub codes : Bytes → List CoapOption → Coding
codes bs os = record { input = bs; options = some os }

-- the bytes are a fault
abbrev pub fault : String → Coding
fault s = record { input = hex s; options = none }

-- what is read
abbrev pub answered_coding : Coding → Coding
answered_coding c = record { input = c.input; options = read_options c.input }

-- each with what is special about it
unfoldable pub codings : List Coding
codings =
    -- no option; the second row of 11.2; a delta of 15, without and with a length of 13 or more; the largest number
    codes [] []
    ∷ codes (hex "72 F0 B0 4B" ++ ascii ".well-known" ++ hex "04" ++ ascii "core")
    (option 7 (hex "F0 B0") ∷ option 11 (ascii ".well-known") ∷ option 11 (ascii "core") ∷ [])
    ∷ codes (hex "D1 02 61") (option 15 (ascii "a") ∷ [])
    ∷ codes (hex "DD 02 00" ++ ascii "temperature=1") (option 15 (ascii "temperature=1") ∷ [])
    ∷ codes (hex "E0 FE F2") (option 65535 [] ∷ [])
    -- a larger number, at once and by a second option
    ∷ fault "E0 FE F3"
    ∷ fault "E0 FE F2 10"
    -- nibble 15 as delta, as length, as both
    ∷ fault "F0"
    ∷ fault "0F"
    ∷ fault "FF"
    -- an extension cut: of 13, of 14, of the length after the delta's
    ∷ fault "D0"
    ∷ fault "E1 00"
    ∷ fault "DD 02"
    -- a value cut
    ∷ fault "11"
    ∷ []

-- ---- 11.10: views

-- an input and a number, and the verdict and the part that the view of that segment gives
pub record SegmentRow : Type 0 where
  pub input : Bytes
  pub nth : ℕ
  pub told : Res (Unit {0})
  pub part : Span

-- the n-th segment of the input
abbrev pub segment_of : String → ℕ → Res (Unit {0}) → Span → SegmentRow
segment_of s n v p = record { input = hex s; nth = n; told = v; part = p }

-- what the view gives
abbrev pub answered_segment : SegmentRow → SegmentRow
answered_segment r =
    let v : Res Span = segment_view limits r.input r.nth in
    record { input = r.input; nth = r.nth; told = verdict v; part = segment_shown v }

-- an empty segment and one after it; none; a refused input
unfoldable pub segment_rows : List SegmentRow
segment_rows =
    segment_of "82 00 82 60 61 61" 0 (ok tt) (span 4 0)
    ∷ segment_of "82 00 82 60 61 61" 1 (ok tt) (span 5 1)
    ∷ segment_of "82 00 82 60 61 61" 2 (refused 18 0) (span 0 0)
    ∷ segment_of "81 00" 0 (refused 2 1) (span 0 0)
    ∷ []

-- a base and a reference, and the verdict and the part that the view of the authority gives
pub record AuthorityRow : Type 0 where
  pub base : Bytes
  pub input : Bytes
  pub told : Res (Unit {0})
  pub part : Piece

-- of this reference against B
abbrev pub authority_of : String → Res (Unit {0}) → Piece → AuthorityRow
authority_of s v p = record { base = B; input = hex s; told = v; part = p }

-- against a base that is refused, or not absolute: 8 at k, before the reference's own refusal
abbrev pub no_authority : Bytes → ℕ → AuthorityRow
no_authority base k = record { base = base; input = hex "81 00"; told = refused 8 k; part = of_reference (span 0 0) }

-- what the view gives
abbrev pub answered_authority : AuthorityRow → AuthorityRow
answered_authority r =
    let v : Res Piece = authority_view limits r.base r.input in
    record { base = r.base; input = r.input; told = verdict v; part = piece_shown v }

-- the base's; the reference's own; a refused reference; a refused base, and one that is not absolute
unfoldable pub authority_rows : List AuthorityRow
authority_rows =
    authority_of "80" (ok tt) (of_base (span 2 9))
    ∷ authority_of "82 F6 81 61 61" (ok tt) (of_reference (span 2 3))
    ∷ authority_of "81 00" (refused 2 1) (of_reference (span 0 0))
    ∷ no_authority (hex "82 20 81 61 41") 3
    ∷ no_authority (hex "80") 0
    ∷ []

-- ---- 11.11: bases that are refused, with their places

-- a base, and what resolving gives against it for a reference that is itself refused
pub record Based : Type 0 where
  pub base : Bytes
  pub result : Res Bytes

-- 8 at k
abbrev pub refused_base : Bytes → ℕ → Based
refused_base base k = record { base = base; result = refused 8 k }

-- what the call answers
abbrev pub answered_base : Based → Based
answered_base b = record { base = b.base; result = resolve_call limits b.base (hex "81 00") }

-- cut at its length; a discard; a label; the rules over all labels; bytes after the array; not absolute, without and with an authority
unfoldable pub bases : List Based
bases =
    refused_base [] 0
    ∷ refused_base (hex "82 20") 2
    ∷ refused_base (hex "81 18 80") 1
    ∷ refused_base (hex "82 20 81 61 41") 3
    ∷ refused_base (hex "82 20 84 61 31 61 32 61 33 61 34") 2
    ∷ refused_base (hex "82 20 81 61 61 00") 5
    ∷ refused_base (hex "80") 0
    ∷ refused_base (hex "82 F6 81 61 61") 0
    ∷ []

-- ---- 11.12: bytes of labels, by the rule as it was and as it is

-- a byte, and whether it may stand in a label
pub record LabelByte : Type 0 where
  pub byte : ℕ
  pub before : Bool
  pub since : Bool

-- the byte as it is
abbrev pub labelled : ℕ → Bool → Bool → LabelByte
labelled b was is = record { byte = b; before = was; since = is }

-- by both definitions
abbrev pub answered_byte : LabelByte → LabelByte
answered_byte l = record { byte = l.byte; before = earlier_byte l.byte; since = label_byte l.byte }

-- the brackets, which the amendment takes away, the bytes beside them; both ends of A to Z, the bytes beside them; "."
unfoldable pub label_bytes : List LabelByte
label_bytes =
    labelled 0x5B true false
    ∷ labelled 0x5D true false
    ∷ labelled 0x5C true true
    ∷ labelled 0x5E true true
    ∷ labelled 0x41 false false
    ∷ labelled 0x5A false false
    ∷ labelled 0x40 true true
    ∷ labelled 0x2E false false
    ∷ labelled 0x2D true true
    ∷ labelled 0x2F true true
    ∷ []
