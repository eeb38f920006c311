-- For which site a request was made (RFC 9110, section 7.2; the Fetch standard, section 3.2; Fetch Metadata Request Headers,
-- section 2.3). A browser writes these fields itself, so that a page can't leave them out.
use Rattle.std.specs.Prelude.{ℕ, Bool, false, not, ◌&&◌, ◌||◌, ◌==◌, nat_eq, List, drop, codes}
use Rattle.std.specs.Char.{is_ascii_digit}
use Rattle.std.specs.List.{before_first, list_any, list_all, starts_with}
use Rattle.std.specs.Option.{option_map_or}
use Rattle.std.specs.Str.{str_eq_ignore_ascii_case}
use Rattle.http_read.specs.Heads.{FieldText, is_named, value_of, has_field}

-- what stands before a host's port
abbrev pub host_name : List ℕ → List ℕ
host_name host = before_first (λ b. b == 58) host

-- a digit or a dot
abbrev pub is_address_byte : ℕ → Bool
is_address_byte b = is_ascii_digit b || b == 46

-- an address of 127.0.0.0/8; no name of the DNS is written with digits and dots alone
abbrev pub is_loopback_address : List ℕ → Bool
is_loopback_address name = starts_with nat_eq name (codes "127.") && list_all is_address_byte name

-- a loopback name or address, with or without a port
abbrev pub is_loopback : List ℕ → Bool
is_loopback host =
    starts_with nat_eq host (codes "[::1]")
    || str_eq_ignore_ascii_case (host_name host) (codes "localhost") || is_loopback_address (host_name host)

-- a host that is elsewhere: a name with a dot, as each name of the public DNS has one, or an address, and none of the
-- loopback. A page whose own name was made to lead to the loopback asks by such a name.
abbrev pub is_elsewhere : List ℕ → Bool
is_elsewhere host = list_any (λ b. b == 46) host && not (is_loopback host)

-- a field that says that the server was asked by such a name
abbrev pub asks_elsewhere : FieldText → Bool
asks_elsewhere field = is_named (codes "host") field && is_elsewhere field.1

-- the origin of the pages of a host
abbrev pub is_origin_of : List ℕ → List ℕ → Bool
is_origin_of host origin = starts_with nat_eq origin (codes "http://") && str_eq_ignore_ascii_case (drop 7 origin) host

-- a site that isn't the server's own
abbrev pub is_other_site : List ℕ → Bool
is_other_site value =
    str_eq_ignore_ascii_case value (codes "cross-site") || str_eq_ignore_ascii_case value (codes "same-site")

-- a field that tells another site than that of this host: another Host, an Origin that isn't its own, or a Sec-Fetch-Site
abbrev pub tells_other : List ℕ → FieldText → Bool
tells_other host field =
    (is_named (codes "host") field && not (str_eq_ignore_ascii_case field.1 host))
    || (is_named (codes "origin") field && not (is_origin_of host field.1))
    || (is_named (codes "sec-fetch-site") field && is_other_site field.1)

-- the server was asked by a loopback name, and each field tells its own site
abbrev pub is_own : List FieldText → Bool
is_own fields =
    option_map_or (λ host. is_loopback host && not (list_any (tells_other host) fields)) (value_of (codes "host") fields) false

-- a browser made the request, as Origin or Sec-Fetch-Site tells, and not for the server's own site
abbrev pub is_for_other : List FieldText → Bool
is_for_other fields = (has_field (codes "origin") fields || has_field (codes "sec-fetch-site") fields) && not (is_own fields)

-- the request was made for another site: that has the name by which the server was asked, or a browser tells so
abbrev pub is_foreign : List FieldText → Bool
is_foreign fields = list_any asks_elsewhere fields || is_for_other fields
