-- The line that tells a report.
use Rattle.std.specs.Prelude.{ℕ, List, ◌++◌, Option, Some, None, codes, decimal}
use Rattle.serde_json.specs.Data.{Data, null, array, object, number, unsigned, item, no_items, member, no_members}
use Rattle.audit_dump.specs.Reports.{Fault, Report, number_of}

-- the fault in a report's line: `null`, or `[CHECK,PLACE]`
abbrev pub fault_text : Option Fault → List ℕ
fault_text None = codes "null"
fault_text (Some fault) = codes "[" ++ (decimal (number_of fault.check) ++ (codes "," ++ (decimal fault.place ++ codes "]")))

-- a report without its newline
abbrev pub report_text : Report → List ℕ
report_text report =
    codes "{\"fault\":" ++ (fault_text report.fault ++ (codes ",\"kept\":" ++ (decimal report.kept ++ (codes ",\"occulted\":" ++ (decimal report.occulted
    ++ (codes ",\"point\":" ++ (decimal report.point ++ (codes ",\"size\":" ++ (decimal report.size ++ (codes ",\"times\":" ++ (decimal report.times ++ codes "}")))))))))))

-- The line of a report.
-- Example: `{"fault":[3,2],"kept":2,"occulted":0,"point":0,"size":2,"times":1}` and a newline.
abbrev pub report_line : Report → List ℕ
report_line report = report_text report ++ codes "\n"

-- ---- as JSON

-- the fault: null, or the check's number and the place
abbrev pub fault_data : Option Fault → Data
fault_data None = null
fault_data (Some fault) = array (item (number (unsigned (number_of fault.check))) (item (number (unsigned fault.place)) no_items))

-- a report: an object whose keys stand in this order
abbrev pub report_data : Report → Data
report_data report = object (
    member (codes "fault") (fault_data report.fault) (
    member (codes "kept") (number (unsigned report.kept)) (
    member (codes "occulted") (number (unsigned report.occulted)) (
    member (codes "point") (number (unsigned report.point)) (
    member (codes "size") (number (unsigned report.size)) (member (codes "times") (number (unsigned report.times)) no_members)
    )
    )
    )
    )
    )
