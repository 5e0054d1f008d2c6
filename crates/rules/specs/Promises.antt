-- The theorems of this crate, as types. proofs/Proved.antt proves each.
use Rattle.std.specs.Prelude.{ℕ, ◌+◌, ◌*◌, ◌^◌, ◌≤◌, ◌<◌, ◌≡◌, true, false, List, [], ◌∷◌, ◌++◌, map, ◌↔◌, ◌⊎◌, length, take, drop}
use Rattle.std.proofs.Math.Option.{none, some}
use Rattle.std.proofs.Math.ListN.{get_elem?}
use Rattle.rules.specs.Bytes.{Bytes, Octets, all, hex}
use Rattle.rules.specs.Result.{Res, refused, ok, CUT, TAIL, RESULT}
use Rattle.rules.specs.Model.{Host, Authority, discard, Span, Reference, absolute, Components, map_parts, Limits, elements, Cri, reference, normal_path, normal, Same}
use Rattle.rules.specs.Reader.{taken, Found, read}
use Rattle.rules.specs.Meaning.{span, components, read_reference, read_absolute}
use Rattle.rules.specs.Encode.{authority_item, encode}
use Rattle.rules.specs.Valid.{GoodAddress, GoodHost, Valid}
use Rattle.rules.specs.Amended.{EarlierValid, NoBrackets}
use Rattle.rules.specs.Resolve.{opening_authority, resolve, fits}
use Rattle.rules.specs.Rules.{SchemeEntry}
use Rattle.rules.specs.Address.{address_text}
use Rattle.rules.specs.ReadAddress.{read_address}
use Rattle.rules.specs.Text.{uri_text}
use Rattle.rules.specs.Options.{CoapOption, option, uri_host, options, options_from, coap_scheme, read_options, Codable}
use Rattle.rules.specs.Writing.{all_texts, Sized, counted, inside}
use Rattle.rules.specs.Calls.{length_of, outcome, after, read_call, resolve_call, text_call, options_call, write_call}
use Rattle.rules.specs.Views.{segment_view, Piece, of_reference, of_base, authority_view, segment_shown, piece_shown, verdict}
use Rattle.rules.specs.Cases.{AllHold, B, starred, unstarred, long_base, slips, steps, refusals, accepted, sizes, answered_refusal, texts, answered_text, escaped, answered_escape, requests, answered_request, codings, answered_coding, addresses, ipv6_printed, said_addresses, answered_said, segment_rows, answered_segment, authority_rows, answered_authority, bases, answered_base, label_bytes, answered_byte}

-- ---- the reader accepts exactly the encodings of valid references, and gives them back

-- what is accepted is the encoding of the valid reference that it says
abbrev pub Canonical : Type 0
Canonical = (lim : Limits) (bs : Bytes) (r : Reference) → Octets bs → read_reference lim bs ≡ ok r → (encode r ≡ bs) × Valid lim r

-- a valid reference's encoding is made of bytes, and is read as that reference
abbrev pub Complete : Type 0
Complete = (lim : Limits) → lim.segments < 2 ^ 64 → (r : Reference) → Valid lim r → Octets (encode r) × (read_reference lim (encode r) ≡ ok r)

-- both at once
abbrev pub Exact : Type 0
Exact =
    (lim : Limits) → lim.segments < 2 ^ 64 → (bs : Bytes) (r : Reference) → Octets bs
    → (read_reference lim bs ≡ ok r) ↔ ((encode r ≡ bs) × Valid lim r)

-- the amended rule on labels takes away exactly the references with "[" or "]" in a label: an input is accepted exactly if it is the encoding
-- of a reference that was valid before, by `EarlierValid`, and has no such label
abbrev pub Brackets : Type 0
Brackets =
    (lim : Limits) → lim.segments < 2 ^ 64 → (bs : Bytes) (r : Reference) → Octets bs
    → (read_reference lim bs ≡ ok r) ↔ ((encode r ≡ bs) × EarlierValid lim r × NoBrackets r)

-- every refusal of the reader is numbered 1 to 7
abbrev pub Numbers : Type 0
Numbers = (lim : Limits) (bs : Bytes) (n k : ℕ) → read lim bs ≡ refused n k → (1 ≤ n) × (n ≤ 7)

-- ---- more bytes at the end

-- a refusal other than CUT is the refusal of every longer input that is not too long, at the same place
abbrev pub Prefix : Type 0
Prefix =
    (lim : Limits) (p q : Bytes) → Octets p → length (p ++ q) ≤ lim.bytes → (n k : ℕ) → (n ≡ CUT → ⊥)
    → read lim p ≡ refused n k → read lim (p ++ q) ≡ refused n k

-- an accepted input with bytes after it is TAIL at the first byte after
abbrev pub Tail : Type 0
Tail =
    (lim : Limits) (p : Bytes) (b : ℕ) (q : Bytes) → Octets p → length (p ++ (b ∷ q)) ≤ lim.bytes → (f : Found)
    → read lim p ≡ ok f → read lim (p ++ (b ∷ q)) ≡ refused TAIL (length p)

-- ---- demand 1: the room

-- RULES 3.1: after a refusal the length is 0 and every byte of the room is as it was; the length told lies inside the room, and past it the
-- room is as it was; its length stays
pub record Untouched (u : Res Bytes) (room : Bytes) : Type 0 where
  pub kept : (n k : ℕ) → outcome u (length room) ≡ refused n k → (length_of (outcome u (length room)) ≡ 0) × (after u room ≡ room)
  pub within : length_of (outcome u (length room)) ≤ length room
  pub past : drop (length_of (outcome u (length room))) (after u room) ≡ drop (length_of (outcome u (length room))) room
  pub size : length (after u room) ≡ length room

-- RULES 3.7, of a room of n bytes: 10 at 0 exactly where the output is longer than the room; a refusal keeps its number and its place
pub record RoomNumbers (u : Res Bytes) (n : ℕ) : Type 0 where
  pub own : (m k : ℕ) → u ≡ refused m k → outcome u n ≡ refused m k
  pub ten : (w : Bytes) → u ≡ ok w → n < length w → outcome u n ≡ refused 10 0
  pub done : (w : Bytes) → u ≡ ok w → length w ≤ n → outcome u n ≡ ok (length w)

-- for every call that writes
abbrev pub Rooms : Type 0
Rooms = (u : Res Bytes) (room : Bytes) → Untouched u room × RoomNumbers u (length room)

-- ---- demand 1: the numbers and the places

-- Each family below has the cases of one call, in the order of its rule, and what the call answers in each.

-- 1 to 7
abbrev pub Own : ℕ → Type 0
Own n = (1 ≤ n) × (n ≤ 7)

-- RULES 9.5: 1 to 7 at the reader's place; or the components
pub data ReadAnswers (lim : Limits) (bs : Bytes) : Res Components → Type 0 where
  read_own : {n k : ℕ} → Own n → read lim bs ≡ refused n k → ReadAnswers lim bs (refused n k)
  read_done : {f : Found} → read lim bs ≡ ok f → ReadAnswers lim bs (ok (components bs f))

-- RULES 3.8: why a base is refused, and the place of the 8: the reader's inside the base, or 0 where it was read and is not absolute
pub data BaseRefused (lim : Limits) (base : Bytes) : ℕ → Type 0 where
  base_own : {n k : ℕ} → Own n → read_reference lim base ≡ refused n k → BaseRefused lim base k
  base_relative : {r : Reference} → read_reference lim base ≡ ok r → absolute r ≡ none → BaseRefused lim base 0

-- RULES 3.3: 8 for the base, then the reference's 1 to 7 at the reader's place, then 9
pub data ResolveAnswers (lim : Limits) (base ref : Bytes) : Res Bytes → Type 0 where
  resolve_8 : {k : ℕ} → BaseRefused lim base k → ResolveAnswers lim base ref (refused 8 k)
  resolve_own : {b : Cri} {n k : ℕ} → read_absolute lim base ≡ ok b → Own n → read_reference lim ref ≡ refused n k
      → ResolveAnswers lim base ref (refused n k)
  resolve_9 : {b : Cri} {r : Reference} → read_absolute lim base ≡ ok b → read_reference lim ref ≡ ok r → fits lim (resolve b r) ≡ false
      → ResolveAnswers lim base ref (refused 9 0)
  resolve_done : {b : Cri} {r : Reference} → read_absolute lim base ≡ ok b → read_reference lim ref ≡ ok r → fits lim (resolve b r) ≡ true
      → ResolveAnswers lim base ref (ok (encode (reference (resolve b r))))

-- RULES 3.4: 1 to 7 at the reader's place, then 8 if the reference is not absolute
pub data TextAnswers (lim : Limits) (bs : Bytes) : Res Bytes → Type 0 where
  text_own : {n k : ℕ} → Own n → read_reference lim bs ≡ refused n k → TextAnswers lim bs (refused n k)
  text_8 : {r : Reference} → read_reference lim bs ≡ ok r → absolute r ≡ none → TextAnswers lim bs (refused 8 0)
  text_done : {r : Reference} {c : Cri} → read_reference lim bs ≡ ok r → absolute r ≡ some c → TextAnswers lim bs (ok (uri_text c))

-- an address has 4 or 16 bytes
abbrev pub IsAddress : Bytes → Type 0
IsAddress a = (length a ≡ 4) ⊎ (length a ≡ 16)

-- RULES 3.5: 12, then 1 to 7 at the reader's place, then 8 if the reference is not absolute, then 11
pub data OptionsAnswers (lim : Limits) (bs to_address : Bytes) (to_port : ℕ) : Res Bytes → Type 0 where
  options_12 : (IsAddress to_address → ⊥) → OptionsAnswers lim bs to_address to_port (refused 12 0)
  options_own : {n k : ℕ} → IsAddress to_address → Own n → read_reference lim bs ≡ refused n k → OptionsAnswers lim bs to_address to_port (refused n k)
  options_8 : {r : Reference} → IsAddress to_address → read_reference lim bs ≡ ok r → absolute r ≡ none
      → OptionsAnswers lim bs to_address to_port (refused 8 0)
  options_11_scheme : {c : Cri} → IsAddress to_address → read_absolute lim bs ≡ ok c → coap_scheme c.scheme ≡ none
      → OptionsAnswers lim bs to_address to_port (refused 11 0)
  options_11_fragment : {c : Cri} {e : SchemeEntry} {t : Bytes} → IsAddress to_address → read_absolute lim bs ≡ ok c → coap_scheme c.scheme ≡ some e
      → c.fragment ≡ some t → OptionsAnswers lim bs to_address to_port (refused 11 0)
  options_done : {c : Cri} {e : SchemeEntry} → IsAddress to_address → read_absolute lim bs ≡ ok c → coap_scheme c.scheme ≡ some e → c.fragment ≡ none
      → OptionsAnswers lim bs to_address to_port (ok (options_from 0 (options c e to_address to_port)))

-- RULES 9.2, 9.3: 4, then the reader's 1 to 7 for the encoding, which is no input and so has no place
pub data WriteAnswers (lim : Limits) (c : Components) (lent : Bytes) : Res Bytes → Type 0 where
  write_4_count : counted lim c ≡ false → WriteAnswers lim c lent (refused 4 0)
  write_4_span : counted lim c ≡ true → all (inside lent) (all_texts c) ≡ false → WriteAnswers lim c lent (refused 4 0)
  write_own : {n k : ℕ} → counted lim c ≡ true → all (inside lent) (all_texts c) ≡ true → Own n → read lim (encode (map_parts (taken lent) c)) ≡ refused n k
      → WriteAnswers lim c lent (refused n 0)
  write_done : {f : Found} → counted lim c ≡ true → all (inside lent) (all_texts c) ≡ true → read lim (encode (map_parts (taken lent) c)) ≡ ok f
      → WriteAnswers lim c lent (ok (encode (map_parts (taken lent) c)))

-- RULES 10.1, 10.3: 1 to 7 at the reader's place, then 18, with the empty part at the start; or the part that holds the n-th segment
pub data SegmentAnswers (lim : Limits) (bs : Bytes) (n : ℕ) : Res (Unit {0}) → Span → Type 0 where
  segment_own : {m k : ℕ} → Own m → read_reference lim bs ≡ refused m k → SegmentAnswers lim bs n (refused m k) (span 0 0)
  segment_18 : {r : Reference} → read_reference lim bs ≡ ok r → get_elem? (elements r.path) n ≡ none
      → SegmentAnswers lim bs n (refused 18 0) (span 0 0)
  segment_done : {r : Reference} {s : Span} → read_reference lim bs ≡ ok r → get_elem? (elements r.path) n ≡ some (taken bs s)
      → SegmentAnswers lim bs n (ok tt) s

-- RULES 10.2, 10.3: 8 for the base, then the reference's 1 to 7 at the reader's place, with the empty part at the start of the reference; or
-- the part that holds the whole item of the reference's own authority, else of the base's
pub data AuthorityAnswers (lim : Limits) (base ref : Bytes) : Res (Unit {0}) → Piece → Type 0 where
  authority_8 : {k : ℕ} → BaseRefused lim base k → AuthorityAnswers lim base ref (refused 8 k) (of_reference (span 0 0))
  authority_own : {b : Cri} {n k : ℕ} → read_absolute lim base ≡ ok b → Own n → read_reference lim ref ≡ refused n k
      → AuthorityAnswers lim base ref (refused n k) (of_reference (span 0 0))
  authority_of_reference : {b : Cri} {r : Reference} {a : Authority Bytes} {s : Span} → read_absolute lim base ≡ ok b → read_reference lim ref ≡ ok r
      → opening_authority r.opening ≡ some a → taken ref s ≡ authority_item a → AuthorityAnswers lim base ref (ok tt) (of_reference s)
  authority_of_base : {b : Cri} {r : Reference} {s : Span} → read_absolute lim base ≡ ok b → read_reference lim ref ≡ ok r
      → opening_authority r.opening ≡ none → taken base s ≡ authority_item b.authority → AuthorityAnswers lim base ref (ok tt) (of_base s)

-- a call answers a: that is the answer of a case, and no case with another answer holds
pub record Decides {A : Type 0} (Case : A → Type 0) (a : A) : Type 0 where
  pub told : Case a
  pub only : (x : A) → Case x → a ≡ x

-- of a view: the verdict is that of its case alone
pub record Shows {A : Type 0} (Case : Res (Unit {0}) → A → Type 0) (v : Res (Unit {0})) (a : A) : Type 0 where
  pub told : Case v a
  pub only : (w : Res (Unit {0})) (x : A) → Case w x → v ≡ w

-- for any limits and any inputs
pub record CallNumbers : Type 0 where
  pub reading : (lim : Limits) (bs : Bytes) → Decides (ReadAnswers lim bs) (read_call lim bs)
  pub resolving : (lim : Limits) (base ref : Bytes) → Decides (ResolveAnswers lim base ref) (resolve_call lim base ref)
  pub printing : (lim : Limits) (bs : Bytes) → Decides (TextAnswers lim bs) (text_call lim bs)
  pub requesting : (lim : Limits) (bs to_address : Bytes) (to_port : ℕ)
      → Decides (OptionsAnswers lim bs to_address to_port) (options_call lim bs to_address to_port)
  pub writing : (lim : Limits) (c : Components) (lent : Bytes) → Decides (WriteAnswers lim c lent) (write_call lim c lent)
  pub segments : (lim : Limits) (bs : Bytes) (n : ℕ)
      → Shows (SegmentAnswers lim bs n) (verdict (segment_view lim bs n)) (segment_shown (segment_view lim bs n))
  pub authorities : (lim : Limits) (base ref : Bytes) → Octets base → Octets ref
      → Shows (AuthorityAnswers lim base ref) (verdict (authority_view lim base ref)) (piece_shown (authority_view lim base ref))

-- ---- demand 2: what was read is written again as it was, and what was written is read again as it was

-- the bytes that a call writes, up to the length it reports
abbrev pub shown : Res Bytes → Bytes → Bytes
shown u room = take (length_of (outcome u (length room))) (after u room)

-- a call whose output is w: into every room that is long enough it writes w, whole
pub record Writes (u : Res Bytes) (w : Bytes) : Type 0 where
  pub output : u ≡ ok w
  pub told : (room : Bytes) → length w ≤ length room → outcome u (length room) ≡ ok (length w)
  pub bytes : (room : Bytes) → length w ≤ length room → shown u room ≡ w

-- writing from the components that reading reports of an accepted input, with that input as the lent bytes, gives its bytes again
abbrev pub ReadWrite : Type 0
ReadWrite = (lim : Limits) (bs : Bytes) (c : Components) → Octets bs → read_call lim bs ≡ ok c → Writes (write_call lim c bs) bs

-- the bytes w are read, as components whose contents in w are those of c in the lent bytes
pub record Reread (lim : Limits) (c : Components) (lent w : Bytes) : Type 0 where
  pub components : Components
  pub accepted : read_call lim w ≡ ok components
  pub contents : map_parts (taken w) components ≡ map_parts (taken lent) c

-- what was written from components is accepted, and reading it gives components with the same contents
abbrev pub WriteRead : Type 0
WriteRead =
    (lim : Limits) → lim.segments < 2 ^ 64 → (c : Components) (lent w : Bytes) → length lent < 2 ^ 64 → Sized c → write_call lim c lent ≡ ok w
    → Reread lim c lent w

-- ---- demand 3: two different CRIs never print as one text

-- For any two inputs that the reader accepts as absolute, with room enough, whatever the rooms hold, both URI texts are written,
-- and they are equal, length and bytes, exactly when the two are the same CRI.
pub record BothPrinted (u v : Res Bytes) (c d : Cri) (x y : Bytes) : Type 0 where
  pub first : outcome u (length x) ≡ ok (length (uri_text c))
  pub second : outcome v (length y) ≡ ok (length (uri_text d))
  pub first_text : shown u x ≡ uri_text c
  pub second_text : shown v y ≡ uri_text d
  pub same : ((length_of (outcome u (length x)) ≡ length_of (outcome v (length y))) × (shown u x ≡ shown v y)) ↔ Same c d

-- for any limits
abbrev pub Demand3 : Type 0
Demand3 =
    (lim : Limits) (a b : Bytes) (c d : Cri) → Octets a → Octets b → read_absolute lim a ≡ ok c → read_absolute lim b ≡ ok d
    → (x y : Bytes) → length (uri_text c) ≤ length x → length (uri_text d) ≤ length y → BothPrinted (text_call lim a) (text_call lim b) c d x y

-- for an n-byte encoding the text is never longer than 3n + 13 bytes, so a room of that length is enough
abbrev pub Bound : Type 0
Bound =
    (lim : Limits) (bs : Bytes) (c : Cri) → Octets bs → read_absolute lim bs ≡ ok c
    → (length (uri_text c) ≤ 3 * length bs + 13)
    × ((n : ℕ) → 3 * length bs + 13 ≤ n → outcome (text_call lim bs) n ≡ ok (length (uri_text c)))

-- RULES 6.7: a text is read as an address exactly if it is the text of that address
abbrev pub AddressExact : Type 0
AddressExact = (t a : Bytes) → (read_address t ≡ some a) ↔ ((address_text a ≡ t) × GoodAddress a)

-- ---- resolving

-- resolving an accepted reference against an accepted absolute base gives an absolute CRI, whose reference is valid and read again
-- as that CRI, unless 9 applies
pub record Resolved (lim : Limits) (base ref : Bytes) (c : Cri) : Type 0 where
  pub written : fits lim c ≡ true → resolve_call lim base ref ≡ ok (encode (reference c))
  pub valid : fits lim c ≡ true → Valid lim (reference c)
  pub again : fits lim c ≡ true → read_absolute lim (encode (reference c)) ≡ ok c
  pub refusal : fits lim c ≡ false → resolve_call lim base ref ≡ refused RESULT 0

-- for any limits that a CBOR head can count
abbrev pub Resolving : Type 0
Resolving =
    (lim : Limits) → lim.segments < 2 ^ 64 → (base ref : Bytes) (b : Cri) (r : Reference) → Octets base → Octets ref
    → read_absolute lim base ≡ ok b → read_reference lim ref ≡ ok r → Resolved lim base ref (resolve b r)

-- the reference 80 gives the base again, without its fragment
abbrev pub EmptyReference : Type 0
EmptyReference =
    (b : Cri) → resolve b (record { opening = discard 0; path = none; query = none; fragment = none })
    ≡ record { scheme = b.scheme; authority = b.authority; path = normal_path b.path; query = b.query; fragment = none }

-- the reference 82 00 80 also takes the base's query away
abbrev pub EmptyPathArray : Type 0
EmptyPathArray =
    (b : Cri) → resolve b (record { opening = discard 0; path = some []; query = none; fragment = none })
    ≡ record { scheme = b.scheme; authority = b.authority; path = normal_path b.path; query = none; fragment = none }

-- the CRI without its fragment
abbrev pub unfragmented : Cri → Cri
unfragmented c = record { scheme = c.scheme; authority = c.authority; path = c.path; query = c.query; fragment = none }

-- resolving a result by the reference 80 gives it again, without its fragment
abbrev pub ResolvedAgain : Type 0
ResolvedAgain =
    (lim : Limits) → lim.segments < 2 ^ 64 → (base ref : Bytes) (b : Cri) (r : Reference) → Octets base → Octets ref
    → read_absolute lim base ≡ ok b → read_reference lim ref ≡ ok r → fits lim (resolve b r) ≡ true
    → resolve_call lim (encode (reference (resolve b r))) (hex "80") ≡ ok (encode (reference (unfragmented (resolve b r))))

-- an absolute reference resolves to itself in normal form, whatever the base, and never gets 9
abbrev pub AbsoluteReference : Type 0
AbsoluteReference =
    (lim : Limits) (base ref : Bytes) (b c : Cri) → Octets ref → read_absolute lim base ≡ ok b → read_absolute lim ref ≡ ok c
    → resolve_call lim base ref ≡ ok (encode (reference (normal c)))

-- ---- CoAP options: what is coded is read back

-- the coding of options that can be coded is made of bytes, and is read as those options
abbrev pub OptionsBack : Type 0
OptionsBack = (os : List CoapOption) → Codable os → Octets (options_from 0 os) × (read_options (options_from 0 os) ≡ some os)

-- bytes are read as options exactly if they are the coding of those options, and these can be coded
abbrev pub OptionsExact : Type 0
OptionsExact = (bs : Bytes) (os : List CoapOption) → Octets bs → (read_options bs ≡ some os) ↔ ((options_from 0 os ≡ bs) × Codable os)

-- what the options call writes is read as the options of the absolute CRI that its input says, which has one of the six schemes and
-- no fragment
pub record Requested (lim : Limits) (bs to_address : Bytes) (to_port : ℕ) (w : Bytes) : Type 0 where
  pub cri : Cri
  pub entry : SchemeEntry
  pub read : read_absolute lim bs ≡ ok cri
  pub scheme : coap_scheme cri.scheme ≡ some entry
  pub fragment : cri.fragment ≡ none
  pub octets : Octets w
  pub back : read_options w ≡ some (options cri entry to_address to_port)

-- for any limits and any destination
abbrev pub OptionsRead : Type 0
OptionsRead =
    (lim : Limits) (bs to_address : Bytes) (to_port : ℕ) (w : Bytes) → Octets bs → options_call lim bs to_address to_port ≡ ok w
    → Requested lim bs to_address to_port w

-- the reason for the amended rule on labels: two hosts with the same Uri-Host, neither being the destination's address, which has none, are the same host
abbrev pub HostDetermined : Type 0
HostDetermined =
    (h k : Host Bytes) (to_address value : Bytes) → GoodHost h → GoodHost k → uri_host h to_address ≡ option 3 value ∷ [] → uri_host k to_address ≡ option 3 value ∷ []
    → h ≡ k

-- for an n-byte encoding the options are never longer than 2n + 16 bytes, so a room of that length is enough
abbrev pub OptionsBound : Type 0
OptionsBound =
    (lim : Limits) (bs to_address : Bytes) (to_port : ℕ) (w : Bytes) → Octets bs → options_call lim bs to_address to_port ≡ ok w
    → (length w ≤ 2 * length bs + 16)
    × ((n : ℕ) → 2 * length bs + 16 ≤ n → outcome (options_call lim bs to_address to_port) n ≡ ok (length w))

-- ---- worked examples, by computing

-- the starred rows of the table, one statement
abbrev pub Starred : Type 0
Starred = AllHold B starred

-- the remaining rows, the two slips, each item of a reference, refusals with their places, accepted inputs, sizes, texts, escapes, options,
-- option bytes read back, IPv6 texts, addresses read back, views, refused bases and bytes of labels, one statement
pub record Examples : Type 0 where
  pub rows : AllHold B unstarred
  pub slipped : AllHold long_base slips
  pub steps : AllHold long_base steps
  pub order : map answered_refusal refusals ≡ refusals
  pub accepted : map answered_refusal accepted ≡ accepted
  pub sizes : map answered_refusal sizes ≡ sizes
  pub texts : map answered_text texts ≡ texts
  pub escaped : map answered_escape escaped ≡ escaped
  pub options : map answered_request requests ≡ requests
  pub codings : map answered_coding codings ≡ codings
  pub ipv6 : map ipv6_printed addresses ≡ addresses
  pub said : map answered_said said_addresses ≡ said_addresses
  pub segments : map answered_segment segment_rows ≡ segment_rows
  pub authorities : map answered_authority authority_rows ≡ authority_rows
  pub bases : map answered_base bases ≡ bases
  pub label_bytes : map answered_byte label_bytes ≡ label_bytes
