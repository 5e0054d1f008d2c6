-- To compute with every definition: `unfolding computed`.
use mathlib.Core.Option.{bind}
use Rattle.rules.specs.Bytes.{hex_value, number_from, big_endian, all, any, upto, split, concat, join}
use Rattle.rules.specs.Result.{◌>>=◌, ◌>>◌, need, given, when◌then◌else◌}
use Rattle.rules.specs.Model.{absolute, reference, normal_path, normal}
use Rattle.rules.specs.Utf8.{lead_of, lead_from, utf8_from, utf8}
use Rattle.rules.specs.Head.{code_of, kind_of, width, shortest, head_at, read_head, major_of, head_bytes}
use Rattle.rules.specs.Rules.{schemes, scheme_in, known_scheme, scheme_byte, starts_lower, scheme_rule, label_byte, label_rule, octet, looks_ipv4, name_rule, segment_rule}
use Rattle.rules.specs.Reader.{read_content, text_body, read_text, read_row, spans, contents, null_body, array_body, read_array, fragment_body, read_fragment, read_nothing, port_body, read_port, label_body, read_names, address_host, labels_host, read_authority, after_scheme, opening_body, read_opening, read}
use Rattle.rules.specs.Meaning.{components, meaning, read_reference, read_absolute}
use Rattle.rules.specs.Encode.{text_item, array_item, texts_item, or_null, tail_items, port_items, host_items, authority_item, scheme_item, discard_alone, with_opening, encode}
use Rattle.rules.specs.Resolve.{start, discarded, appended, copied, resolve, fits}
use Rattle.rules.specs.Numeral.{digit_byte, numeral, decimal, digit_value, digits_from, value}
use Rattle.rules.specs.Address.{ipv4_text, groups, zeros_ahead, run_here, run_later, longer, longest, hex_groups, hex_text, mapped, mixed_text, ipv6_text, address_text}
use Rattle.rules.specs.ReadAddress.{ungroup, heads, rests, fulls, spread, hex_bytes, dotted_bytes, ipv6_bytes, address_bytes, is_address, read_address}
use Rattle.rules.specs.Text.{bare, hex_digit, escape_byte, escape, marked, scheme_text, host_text, authority_text, path_text, query_text, hierarchy_text, uri_text}
use Rattle.rules.specs.Options.{uri_host, port_bytes, uri_port, options, nibble, extension, option_bytes, options_from, one_byte_more, two_bytes_more, extended, option_at, read_option, read_options_from, read_options}
use Rattle.rules.specs.Writing.{counted, inside}
use Rattle.rules.specs.Calls.{outcome, after, read_call, resolve_call, text_call, options_call, write_call}
use Rattle.rules.specs.Views.{segment_view, authority_view}

unfoldable pub computed : Unit {0}
unfolding bind hex_value number_from big_endian all any upto split concat join ◌>>=◌ ◌>>◌ need given when◌then◌else◌ absolute reference normal_path normal lead_of lead_from utf8_from utf8 code_of kind_of width shortest head_at read_head major_of head_bytes schemes scheme_in known_scheme scheme_byte starts_lower scheme_rule label_byte label_rule octet looks_ipv4 name_rule segment_rule read_content text_body read_text read_row spans contents null_body array_body read_array fragment_body read_fragment read_nothing port_body read_port label_body read_names address_host labels_host read_authority after_scheme opening_body read_opening read components meaning read_reference read_absolute text_item array_item texts_item or_null tail_items port_items host_items authority_item scheme_item discard_alone with_opening encode start discarded appended copied resolve fits digit_byte numeral decimal digit_value digits_from value ipv4_text groups zeros_ahead run_here run_later longer longest hex_groups hex_text mapped mixed_text ipv6_text address_text ungroup heads rests fulls spread hex_bytes dotted_bytes ipv6_bytes address_bytes is_address read_address bare hex_digit escape_byte escape marked scheme_text host_text authority_text path_text query_text hierarchy_text uri_text uri_host port_bytes uri_port options nibble extension option_bytes options_from one_byte_more two_bytes_more extended option_at read_option read_options_from read_options counted inside outcome after read_call resolve_call text_call options_call write_call segment_view authority_view
computed = tt
